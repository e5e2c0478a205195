-- A combination has its number's digits.
use Rattle.std.proofs.Common.{◌≡◌, ℕ, zero, suc, ◌+◌, ◌-◌, ◌*◌, ◌/◌, ◌%◌, ◌<◌, ◌≤◌, List, [], ◌∷◌, ◌++◌, Option, Some, length, map, refl, sym, ap, ◌∙◌, add-one, inl, inr, arith}
use Rattle.std.proofs.Math.Nat.{div-eq_of_lt, mod-eq_of_lt, div-eq-sub-div, mod-eq-sub-mod, mod-lt}
use Rattle.std.specs.Prelude.{slice_get, option_map}
use Rattle.std.specs.List.{flat_map}
use Rattle.std.specs.Option.{option_to_list}
use Rattle.std.proofs.lemmas.Bool.{cases_lt}
use Rattle.std.proofs.lemmas.List.{length-map}
use Rattle.orc_cases.specs.Choices.{Choice}
use Rattle.orc_cases.specs.Ways.{Way, combinations}
use Rattle.orc_cases.specs.Digits.{way_at}
use Rattle.orc_cases.specs.Places.{AreBelow, picked}
use Rattle.orc_cases.proofs.Lists.{get_left, get_right, get-map}
use Rattle.orc_cases.proofs.Lengths.{length_combinations, length_nothing}

-- with each of some before each of others
abbrev pub each_before : List Choice → List Way → List Way
each_before cs ws = flat_map (λ c. map (λ w. c ∷ w) ws) cs

-- the first digit, and what stands behind it
pub record Parts (cs : List Choice) (ws : List Way) (n : ℕ) : Type 0 where
  pub first : Choice
  pub digit : slice_get cs (n / length ws) ≡ Some first
  pub whole : slice_get (each_before cs ws) n ≡ option_map (λ w. first ∷ w) (slice_get ws (n % length ws))

in_first : (c : Choice) (cs : List Choice) (ws : List Way) (n : ℕ) → n < length ws → Parts (c ∷ cs) ws n
in_first c cs ws n lt = record {
  first = c;
  digit = ap (λ (k : ℕ). slice_get (c ∷ cs) k) (div-eq_of_lt lt);
  whole =
      get_left (map (λ (w : Way). c ∷ w) ws) (each_before cs ws) n (let e = length-map ws (λ (w : Way). c ∷ w) in omega arith)
      ∙ get-map (λ (w : Way). c ∷ w) ws n
      ∙ ap (λ (k : ℕ). option_map (λ (w : Way). c ∷ w) (slice_get ws k)) (sym (mod-eq_of_lt lt));
}

in_later : (c : Choice) (cs : List Choice) (ws : List Way) (n : ℕ) → 0 < length ws → length ws ≤ n → Parts cs ws (n - length ws) → Parts (c ∷ cs) ws n
in_later c cs ws n pos le p = record {
  first = p.first;
  digit = ap (λ (k : ℕ). slice_get (c ∷ cs) k) (div-eq-sub-div pos le ∙ add-one ((n - length ws) / length ws)) ∙ p.digit;
  whole =
      get_right (map (λ (w : Way). c ∷ w) ws) (each_before cs ws) n (let e = length-map ws (λ (w : Way). c ∷ w) in omega arith)
      ∙ ap (λ (k : ℕ). slice_get (each_before cs ws) (n - k)) (length-map ws (λ (w : Way). c ∷ w))
      ∙ p.whole
      ∙ ap (λ (k : ℕ). option_map (λ (w : Way). p.first ∷ w) (slice_get ws k)) (sym (mod-eq-sub-mod le));
}

parts : (cs : List Choice) (ws : List Way) (n : ℕ) → 0 < length ws → n < length cs * length ws → Parts cs ws n
parts [] ws n pos lt = absurd (let e : 0 * length ws ≡ 0 = omega arith in omega arith)
parts (c ∷ cs) ws n pos lt =
    elim (cases_lt n (length ws)) [
      | inl small ↦ in_first c cs ws n small
      | inr large ↦ in_later c cs ws n pos large (parts cs ws (n - length ws) pos (let e : suc (length cs) * length ws ≡ length cs * length ws + length ws = omega arith in omega arith))
    ]

positive : (a b n : ℕ) → n < a * b → 0 < b
positive a zero n lt = absurd (let e : a * 0 ≡ 0 = omega arith in omega arith)
positive a (suc b) n lt = omega arith

-- a number below how many combinations there are has two parts
pub digits : (cs : List Choice) (css : List (List Choice)) (n : ℕ) → n < length (combinations (cs ∷ css)) → Parts cs (combinations css) n
digits cs css n lt =
    let e = length_combinations cs css in
    let le : n < length cs * length (combinations css) = omega arith in
    parts cs (combinations css) n (positive (length cs) (length (combinations css)) n le) le

pub some_behind : (cs : List Choice) (css : List (List Choice)) (n : ℕ) → n < length (combinations (cs ∷ css)) → 0 < length (combinations css)
some_behind cs css n lt =
    let e = length_combinations cs css in
    let le : n < length cs * length (combinations css) = omega arith in
    positive (length cs) (length (combinations css)) n le

pub number_is : (css : List (List Choice)) (n : ℕ) → n < length (combinations css) → slice_get (combinations css) n ≡ Some (way_at css n)
unfolding combinations
number_is [] zero lt = refl
number_is [] (suc n) lt = absurd (let e = length_nothing in omega arith)
number_is (cs ∷ css) n lt =
    let p = digits cs css n lt in
    let pos = some_behind cs css n lt in
    p.whole
    ∙ ap (λ (o : Option Way). option_map (λ (w : Way). p.first ∷ w) o) (number_is css (n % length (combinations css)) (mod-lt n pos))
    ∙ ap (λ (o : Option Choice). Some (option_to_list o ++ way_at css (n % length (combinations css)))) (sym p.digit)

-- one number more of some
picked_step : (css : List (List Choice)) (n : ℕ) (ns : List ℕ) → n < length (combinations css) → picked (combinations css) (n ∷ ns) ≡ way_at css n ∷ picked (combinations css) ns
picked_step css n ns lt = ap (λ (o : Option Way). option_to_list o ++ picked (combinations css) ns) (number_is css n lt)

pub picked_is : (css : List (List Choice)) (ns : List ℕ) → AreBelow (length (combinations css)) ns → picked (combinations css) ns ≡ map (way_at css) ns
picked_is css [] h = refl
picked_is css (n ∷ ns) h = picked_step css n ns h.0 ∙ ap (λ (ws : List Way). way_at css n ∷ ws) (picked_is css ns h.1)
