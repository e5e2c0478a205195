-- What a sort leaves: the same numbers in rising order.
use Rattle.std.proofs.Common.{◌≡◌, ◌<◌, ◌+◌, ℕ, suc, List, [], ◌∷◌, length, reverse, get_or, refl, sym, ap, ◌∙◌, arith, false}
use Rattle.std.specs.List.Sorted.{IsPermutation, IsSorted}
use Rattle.std.specs.List.{sum_by}
use Rattle.std.specs.Ordering.{nat_cmp, is_lt}
use Rattle.std.proofs.lemmas.List.Sorted.{sum_by-IsPermutation}
use Rattle.std.proofs.lemmas.List.{reverse-append}
use Rattle.std.proofs.lemmas.List.Sums.{sum_by-cons}
use Rattle.std.proofs.lemmas.Map.Keys.{ge_from_not_lt}
use Rattle.std.proofs.Math.Numerals.{add-one}
use Rattle.orc_term.specs.Arena.{hits}
use Rattle.orc_term.specs.Dropping.{weight, occurs, DoRise, AreRising}

weight-sum : (w : ℕ → ℕ) (xs : List ℕ) → weight w xs ≡ sum_by w xs
weight-sum w [] = refl
weight-sum w (x ∷ xs) = ap (λ z. w x + z) (weight-sum w xs) ∙ sym (sum_by-cons w x xs)

do_rise : (xs : List ℕ) → ((k d : ℕ) → suc k < length xs → is_lt (nat_cmp (get_or xs (suc k) d) (get_or xs k d)) ≡ false) → DoRise xs
do_rise [] h = tt
do_rise (x ∷ []) h = tt
do_rise (x ∷ y ∷ xs) h = (ge_from_not_lt y x (h 0 0 (omega arith)), do_rise (y ∷ xs) (λ k d lt. h (suc k) d (omega (arith, lt))))

pub rising : (found sorted calls : List ℕ) → found ≡ calls → IsPermutation found sorted → IsSorted nat_cmp sorted → AreRising calls sorted
rising found sorted calls is moved s = (
  do_rise sorted (λ k d lt. ap (λ z. is_lt (nat_cmp (get_or sorted z d) (get_or sorted k d))) (sym (add-one k)) ∙ s k d (omega arith) (omega (arith, lt))),
  λ k. weight-sum (hits k) sorted ∙ sum_by-IsPermutation (hits k) found sorted moved ∙ sym (weight-sum (hits k) found) ∙ ap (occurs k) is,
)

pub reverse-twice : (xs : List ℕ) → reverse (reverse xs) ≡ xs
reverse-twice [] = refl
reverse-twice (x ∷ xs) = ap reverse (reverse-append (x ∷ []) xs) ∙ reverse-append (reverse xs) (x ∷ []) ∙ ap (λ z. x ∷ z) (reverse-twice xs)
