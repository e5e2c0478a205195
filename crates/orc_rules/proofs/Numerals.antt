-- The digits with which a text begins, and their number.
use Rattle.std.proofs.Common.{◌≡◌, ℕ, ◌+◌, ◌*◌, ◌-◌, ◌^◌, ◌<◌, ◌≤◌, Bool, true, false, cond, List, [], ◌∷◌, ◌++◌, length, get_or, Some, None, refl, sym, ap, subst, ◌∙◌, arith, ◌&&◌, rules}
use Rattle.std.specs.Char.{is_ascii_digit}
use Rattle.std.specs.Str.{all_ascii_digits}
use Rattle.std.proofs.lemmas.Bool.{lt-ltb, le-ltb}
use Rattle.std.proofs.lemmas.Str.Parse.{IsNumeralModel, numerals_by_fold}
use Rattle.orc_rules.specs.Digits.{digits_from, digits_at}

-- no digit stands first
abbrev pub Stops : List ℕ → Type 0
Stops [] = Unit {0}
Stops (c ∷ cs) = is_ascii_digit c ≡ false

pub digits_grow : (n : ℕ) (bytes : List ℕ) → n ≤ (digits_from n bytes).0
digits_grow n [] = omega arith
digits_grow n (c ∷ cs) = go (is_ascii_digit c) (digits_grow (n * 10 + (c - 48)) cs) where
  go : (b : Bool) → n * 10 + (c - 48) ≤ (digits_from (n * 10 + (c - 48)) cs).0 → n ≤ (cond b (digits_from (n * 10 + (c - 48)) cs) (n, c ∷ cs)).0
  go false ih = omega arith
  go true ih = omega (arith, ih)

pub too_great : (n : ℕ) (rest bytes : List ℕ) → 1 ≤ length rest → is_ascii_digit (get_or rest 0 0) ≡ true → digits_from n rest ≡ digits_from 0 bytes → 2 ^ 64 ≤ n * 10 + (get_or rest 0 0 - 48) → digits_at bytes ≡ None
unfolding digits_at
too_great n [] bytes some digit same great = absurd (omega (arith, some))
too_great n (c ∷ cs) bytes some digit same great =
    let e1 : digits_from n (c ∷ cs) ≡ digits_from (n * 10 + (c - 48)) cs = rw digit refl in
    let g : n * 10 + (c - 48) ≤ (digits_from 0 bytes).0 = subst (λ (x : ℕ × List ℕ). n * 10 + (c - 48) ≤ x.0) (sym e1 ∙ same) (digits_grow (n * 10 + (c - 48)) cs) in
    rw (le-ltb (digits_from 0 bytes).0 (2 ^ 64) (omega (arith, g, great))) refl

pub ended : (n : ℕ) (rest bytes : List ℕ) → 1 ≤ length rest → is_ascii_digit (get_or rest 0 0) ≡ false → digits_from n rest ≡ digits_from 0 bytes → n < 2 ^ 64 → digits_at bytes ≡ Some (n, rest)
unfolding digits_at
ended n [] bytes some other same small = absurd (omega (arith, some))
ended n (c ∷ cs) bytes some other same small =
    let e1 : digits_from n (c ∷ cs) ≡ (n, c ∷ cs) = rw other refl in
    rw (sym same ∙ e1, lt-ltb n (2 ^ 64) small) refl

pub all_read : (n : ℕ) (rest bytes : List ℕ) → length rest < 1 → digits_from n rest ≡ digits_from 0 bytes → n < 2 ^ 64 → digits_at bytes ≡ Some (n, rest)
unfolding digits_at
all_read n [] bytes none same small = rw (sym same, lt-ltb n (2 ^ 64) small) refl
all_read n (c ∷ cs) bytes none same small = absurd (omega (arith, none))

-- ---- numbers as they are written

abbrev pub read_on : ℕ → List ℕ → ℕ
read_on n [] = n
read_on n (c ∷ cs) = read_on (n * 10 + (c - 48)) cs

pub own : IsNumeralModel (λ ds. all_ascii_digits ds ≡ true) (read_on 0)
own = numerals_by_fold _ (search rules) read_on (search rules)

pub and_parts : (a b : Bool) → (a && b) ≡ true → (a ≡ true) × (b ≡ true)
and_parts true b h = (refl, h)
and_parts false b h = absurd cc

pub stopped : (n : ℕ) (rest : List ℕ) → Stops rest → digits_from n rest ≡ (n, rest)
stopped n [] st = refl
stopped n (c ∷ cs) st = rw st refl

pub digits_again : (n : ℕ) (ds rest : List ℕ) → all_ascii_digits ds ≡ true → Stops rest → digits_from n (ds ++ rest) ≡ (read_on n ds, rest)
digits_again n [] rest are st = stopped n rest st
digits_again n (c ∷ cs) rest are st =
    let p = and_parts (is_ascii_digit c) (all_ascii_digits cs) are in
    rw p.0 (digits_again (n * 10 + (c - 48)) cs rest p.1 st)

-- the digits that were read
pub record Splits (n : ℕ) (bytes : List ℕ) (x : ℕ × List ℕ) : Type 0 where
  pub ds : List ℕ
  pub are : all_ascii_digits ds ≡ true
  pub parts : bytes ≡ ds ++ x.1
  pub value : x.0 ≡ read_on n ds

pub and_both : (a b : Bool) → a ≡ true → b ≡ true → (a && b) ≡ true
and_both a b p q = rw (p, q) refl

pub digits_split : (n : ℕ) (bytes : List ℕ) → Splits n bytes (digits_from n bytes)
digits_split n [] = record { ds = []; are = refl; parts = refl; value = refl }
digits_split n (c ∷ cs) = go (is_ascii_digit c) refl (digits_split (n * 10 + (c - 48)) cs) where
  go : (b : Bool) → is_ascii_digit c ≡ b → Splits (n * 10 + (c - 48)) cs (digits_from (n * 10 + (c - 48)) cs) → Splits n (c ∷ cs) (cond b (digits_from (n * 10 + (c - 48)) cs) (n, c ∷ cs))
  go false e ih = record { ds = []; are = refl; parts = refl; value = refl }
  go true e ih = record { ds = c ∷ ih.ds; are = and_both (is_ascii_digit c) (all_ascii_digits ih.ds) e ih.are; parts = ap (λ (t : List ℕ). c ∷ t) ih.parts; value = ih.value }
