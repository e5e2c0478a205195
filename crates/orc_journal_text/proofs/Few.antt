-- Digits that are too few for a number of over 64 bits.
use Rattle.std.proofs.Common.{◌≡◌, ℕ, zero, suc, ◌+◌, ◌*◌, ◌-◌, ◌^◌, ◌<◌, ◌≤◌, true, false, List, [], ◌∷◌, length, slice_index_or, take, drop, Some, refl, sym, ◌∙◌, arith, inl, inr}
use Rattle.std.specs.Char.{is_ascii_digit}
use Rattle.std.proofs.lemmas.Bool.{lt-ltb, cases_lt}
use Rattle.std.proofs.lemmas.List.{take_all, length-drop}
use Rattle.std.proofs.lemmas.Nat.{pow-add}
use Rattle.std.proofs.Math.Pow.{pow_mono}
use Rattle.orc_rules.specs.Digits.{digits_from, digits_at}
use Rattle.orc_rules.proofs.Numerals.{Stops, stopped}

-- ---- how great their number is

scaled : (n d p : ℕ) → n < p → d ≤ 9 → n * 10 + d < p * 16
scaled n d p small digit = omega (arith, small, digit)

below : (a p q : ℕ) → a < p → p ≤ q → a < q
below a p q lt le = omega (arith, lt, le)

-- a digit takes 4 bits at most
pub one_digit_more : (n d k : ℕ) → n < 2 ^ (4 * k) → d ≤ 9 → n * 10 + d < 2 ^ (4 * (k + 1))
one_digit_more n d k small digit =
    let e : 4 * (k + 1) ≡ 4 * k + 4 = omega arith in
    rw (e, pow-add 2 (4 * k) 4) (scaled n d (2 ^ (4 * k)) small digit)

pub few_fit : (n k : ℕ) → n < 2 ^ (4 * k) → k ≤ 16 → n < 2 ^ 64
few_fit n k small few = below n (2 ^ (4 * k)) (2 ^ 64) small (pow_mono {i = 4 * k} {j = 64} (omega (arith, few)))

pub next_fits : (n d at : ℕ) → at < 16 → n < 2 ^ (4 * at) → d ≤ 9 → n * 10 + d < 2 ^ 64
next_fits n d at lt small digit = few_fit (n * 10 + d) (at + 1) (one_digit_more n d at small digit) (omega (arith, lt))

-- ---- reading on

one_up : (i : ℕ) → suc i + 1 ≡ suc (i + 1)
one_up i = omega arith

first_step : (c : ℕ) (cs : List ℕ) (n : ℕ) → is_ascii_digit c ≡ true → digits_from n (c ∷ cs) ≡ digits_from (n * 10 + (c - 48)) cs
first_step c cs n digit = rw digit refl

step_at : (bytes : List ℕ) (at n : ℕ) → at < length bytes → is_ascii_digit (slice_index_or bytes at 0) ≡ true → digits_from n (drop at bytes) ≡ digits_from (n * 10 + (slice_index_or bytes at 0 - 48)) (drop (at + 1) bytes)
step_at [] at n lt digit = absurd (omega (arith, lt))
step_at (c ∷ cs) zero n lt digit = first_step c cs n digit
step_at (c ∷ cs) (suc k) n lt digit = rw (one_up k) (step_at cs k n (omega (arith, lt)) digit)

pub read_one : (bytes : List ℕ) (at n : ℕ) → 16 ≤ length bytes → at < 16 → is_ascii_digit (slice_index_or bytes at 0) ≡ true → digits_from n (drop at bytes) ≡ digits_from 0 bytes → digits_from (n * 10 + (slice_index_or bytes at 0 - 48)) (drop (at + 1) bytes) ≡ digits_from 0 bytes
read_one bytes at n long lt digit same = sym (step_at bytes at n (omega (arith, lt, long)) digit) ∙ same

-- ---- the end

stops_at : (bytes : List ℕ) (at : ℕ) → (at < length bytes → is_ascii_digit (slice_index_or bytes at 0) ≡ false) → Stops (drop at bytes)
stops_at [] zero other = tt
stops_at [] (suc k) other = tt
stops_at (c ∷ cs) zero other = other (omega arith)
stops_at (c ∷ cs) (suc k) other = stops_at cs k (λ lt. other (omega (arith, lt)))

-- fewer than so many digits were read
under : (at : ℕ) → at ≤ 16 → (at ≡ 16 → ⊥) → at < 16
under at within full =
    elim (cases_lt at 16) [
      | inl few ↦ few
      | inr le ↦ absurd (full (omega (arith, le, within)))
    ]

pub read_all : (bytes : List ℕ) (at n : ℕ) → at ≤ 16 → (at ≡ 16 → ⊥) → (at < 16 → is_ascii_digit (slice_index_or bytes at 0) ≡ false) → digits_from n (drop at bytes) ≡ digits_from 0 bytes → n < 2 ^ (4 * at)
    → digits_at bytes ≡ Some (n, take (length bytes - at) (drop at bytes))
unfolding digits_at
read_all bytes at n within full other same small =
    let st : Stops (drop at bytes) = stops_at bytes at (λ lt. other (under at within full)) in
    let fit : n < 2 ^ 64 = few_fit n at small within in
    let whole : take (length bytes - at) (drop at bytes) ≡ drop at bytes = take_all (length bytes - at) (drop at bytes) (omega (arith, length-drop at bytes)) in
    rw (whole, sym same ∙ stopped n (drop at bytes) st, lt-ltb n (2 ^ 64) fit) refl
