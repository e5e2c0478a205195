-- Numbers in decimal.
use Rattle.std.proofs.Common.{◌≡◌, ℕ, ◌+◌, ◌*◌, ◌-◌, ◌^◌, ◌<◌, Bool, true, false, cond, not, List, [], ◌∷◌, ◌++◌, length, get_or, Some, None, refl, sym, ap, subst, ◌∙◌, arith, ◌&&◌, nat_lt, ◌==◌}
use Rattle.std.specs.Prelude.{decimal}
use Rattle.std.specs.Char.{is_ascii_digit}
use Rattle.std.proofs.Common.{◌≢◌, inl, inr}
use Rattle.std.specs.Str.{all_ascii_digits}
use Rattle.std.proofs.lemmas.Bool.{ltb-true, lt-ltb, false≢true, cases_lt}
use Rattle.std.proofs.lemmas.Option.{cond_some}
use Rattle.std.proofs.lemmas.Grind.{common_steps}
use Rattle.std.proofs.lemmas.Fmt.{decimal-digits_value, digits_decimal, digits_value-decimal, decimal_nonempty, first_decimal, decimal_digit}
use Rattle.orc_rules.specs.Digits.{digits_from, digits_at}
use Rattle.orc_rules.proofs.Numerals.{Stops, read_on, own, and_parts, and_both, stopped, digits_again, Splits, digits_split}
use Rattle.orc_journal_text.specs.Reading.{is_plain, number_at}

-- and no zero stands before others
pub record SplitsPlain (bytes : List ℕ) (x : ℕ × List ℕ) : Type 0 where
  pub split : Splits 0 bytes x
  pub some : 0 < length split.ds
  pub alone : get_or split.ds 0 0 ≡ 48 → length split.ds ≡ 1

plain_one : (c : ℕ) (rest : List ℕ) → is_ascii_digit c ≡ true → Stops rest → SplitsPlain (c ∷ rest) (digits_from 0 (c ∷ rest))
plain_one c rest digit st =
    let e : digits_from 0 (c ∷ rest) ≡ (0 * 10 + (c - 48), rest) = rw digit (stopped (0 * 10 + (c - 48)) rest st) in
    rw e (record { split = record { ds = c ∷ []; are = and_both (is_ascii_digit c) true digit refl; parts = refl; value = refl }; some = omega arith; alone = λ _. refl })

plain_more : (c : ℕ) (rest : List ℕ) → is_ascii_digit c ≡ true → c ≢ 48 → SplitsPlain (c ∷ rest) (digits_from 0 (c ∷ rest))
plain_more c rest digit other =
    let e : digits_from 0 (c ∷ rest) ≡ digits_from (0 * 10 + (c - 48)) rest = rw digit refl in
    let s = digits_split (0 * 10 + (c - 48)) rest in
    rw e (record { split = record { ds = c ∷ s.ds; are = and_both (is_ascii_digit c) (all_ascii_digits s.ds) digit s.are; parts = ap (λ (t : List ℕ). c ∷ t) s.parts; value = s.value }; some = omega arith; alone = λ h. absurd (other h) })

pub plain_split : (bytes : List ℕ) → is_plain bytes ≡ true → SplitsPlain bytes (digits_from 0 bytes)
plain_split [] h = absurd cc
plain_split (c ∷ []) h = plain_one c [] h tt
plain_split (c ∷ d ∷ rest) h = go (c == 48) refl (is_ascii_digit d) refl (and_parts (is_ascii_digit c) (not ((c == 48) && is_ascii_digit d)) h) where
  go : (z : Bool) → (c == 48) ≡ z → (b : Bool) → is_ascii_digit d ≡ b → (is_ascii_digit c ≡ true) × (not ((c == 48) && is_ascii_digit d) ≡ true) → SplitsPlain (c ∷ d ∷ rest) (digits_from 0 (c ∷ d ∷ rest))
  go false e b f p = plain_more c (d ∷ rest) p.0 (λ (h : c ≡ 48). absurd (false≢true (sym e ∙ rw h refl)))
  go true e false f p = plain_one c (d ∷ rest) p.0 f
  go true e true f p = absurd (false≢true (sym (rw (e, f) refl) ∙ p.1))

cond_same : {A : Type 0} (b : Bool) (x y : A) → cond b (Some x) None ≡ Some y → (b ≡ true) × (x ≡ y)
cond_same b x y h = cond_some b x y h

pub number_takes : (bytes : List ℕ) (n : ℕ) (rest : List ℕ) → number_at bytes ≡ Some (n, rest) → (bytes ≡ decimal n ++ rest) × (n < 2 ^ 64)
unfolding number_at digits_at
number_takes bytes n rest h = go (is_plain bytes) refl h where
  go : (b : Bool) → is_plain bytes ≡ b → cond b (cond (nat_lt (digits_from 0 bytes).0 (2 ^ 64)) (Some (digits_from 0 bytes)) None) None ≡ Some (n, rest) → (bytes ≡ decimal n ++ rest) × (n < 2 ^ 64)
  go false e p = absurd cc
  go true e p =
      let s = plain_split bytes e in
      let q = cond_same (nat_lt (digits_from 0 bytes).0 (2 ^ 64)) (digits_from 0 bytes) (n, rest) p in
      let small : (digits_from 0 bytes).0 < 2 ^ 64 = ltb-true _ _ q.0 in
      let text : decimal (read_on 0 s.split.ds) ≡ s.split.ds = decimal-digits_value own s.split.ds s.split.are s.some s.alone (omega (arith, small, s.split.value)) in
      let whole : bytes ≡ decimal (digits_from 0 bytes).0 ++ (digits_from 0 bytes).1 = s.split.parts ∙ ap (λ (t : List ℕ). t ++ (digits_from 0 bytes).1) (sym text ∙ ap decimal (sym s.split.value)) in
      subst (λ (x : ℕ × List ℕ). (bytes ≡ decimal x.0 ++ x.1) × (x.0 < 2 ^ 64)) q.1 (whole, small)

pub eqb-false_of : (a b : ℕ) → a ≢ b → (a == b) ≡ false
eqb-false_of a b h = grind (arith, common_steps)

plain_again : (ds rest : List ℕ) → all_ascii_digits ds ≡ true → 0 < length ds → (get_or ds 0 0 ≡ 48 → length ds ≡ 1) → Stops rest → is_plain (ds ++ rest) ≡ true
plain_again [] rest are some alone st = absurd (omega (arith, some))
plain_again (c ∷ []) [] are some alone st = (and_parts (is_ascii_digit c) true are).0
plain_again (c ∷ []) (d ∷ rest) are some alone st =
    let p = (and_parts (is_ascii_digit c) true are).0 in
    rw (p, st) (go (c == 48)) where
      go : (b : Bool) → (true && not (b && false)) ≡ true
      go true = refl
      go false = refl
plain_again (c ∷ d ∷ ds) rest are some alone st =
    let p = (and_parts (is_ascii_digit c) (all_ascii_digits (d ∷ ds)) are).0 in
    let other : (c == 48) ≡ false = eqb-false_of c 48 (λ h. absurd (omega (arith, alone h))) in
    rw (p, other) refl

zero_alone : (n : ℕ) → n ≡ 0 → length (decimal n) ≡ 1
zero_alone n e = rw (e, decimal_digit 0 (omega arith)) refl

pub number_again : (n : ℕ) (rest : List ℕ) → n < 2 ^ 64 → Stops rest → number_at (decimal n ++ rest) ≡ Some (n, rest)
unfolding number_at digits_at
number_again n rest small st =
    let are = digits_decimal own n small in
    let value = digits_value-decimal own n small in
    let some = decimal_nonempty n small in
    let alone : get_or (decimal n) 0 0 ≡ 48 → length (decimal n) ≡ 1 = λ h. elim (cases_lt 0 n) [ inl lt ↦ absurd (omega (arith, h, first_decimal n lt small)) | inr le ↦ zero_alone n (omega (arith, le)) ] in
    let plain = plain_again (decimal n) rest are some alone st in
    let read : digits_from 0 (decimal n ++ rest) ≡ (n, rest) = digits_again 0 (decimal n) rest are st ∙ ap (λ (k : ℕ). (k, rest)) value in
    rw (plain, read, lt-ltb n (2 ^ 64) small) refl

-- a number begins with a digit
pub record Begins (ds : List ℕ) : Type 0 where
  pub first : ℕ
  pub others : List ℕ
  pub is : ds ≡ first ∷ others
  pub digit : is_ascii_digit first ≡ true

begins : (ds : List ℕ) → all_ascii_digits ds ≡ true → 0 < length ds → Begins ds
begins [] are some = absurd (omega (arith, some))
begins (c ∷ cs) are some = record { first = c; others = cs; is = refl; digit = (and_parts (is_ascii_digit c) (all_ascii_digits cs) are).0 }

pub decimal_begins : (n : ℕ) → n < 2 ^ 64 → Begins (decimal n)
decimal_begins n small = begins (decimal n) (digits_decimal own n small) (decimal_nonempty n small)
