-- What a step makes of a word's count and bits.
use Rattle.std.proofs.Common.{◌≡◌, ℕ, ◌+◌, ◌/◌, ◌%◌, ◌<◌, ◌≤◌, refl, ap, ◌∙◌, arith, bit_or}
use Rattle.std.proofs.lemmas.Nat.{or_mod, or_lt}
use Rattle.std.proofs.lemmas.Nat.Bits.{bit_at_or}
use Rattle.std.specs.Int.Bits.{or_zero_r}
use Rattle.orc_word.specs.declared.bits.Bit.{Bit}
use Rattle.orc_word.specs.declared.bits.Bit.TheVariants.{Published, Killed}
use Rattle.orc_word.specs.Words.{count_of, bit_of}

-- one pass more
pub more_count : (n : ℕ) → n < 17179869184 → count_of n + 1 < 4294967296 → count_of ((n + 1) % 18446744073709551616) ≡ count_of n + 1
more_count n narrow room = omega arith

pub more_bit : (b : Bit) (n : ℕ) → n < 17179869184 → count_of n + 1 < 4294967296 → bit_of b ((n + 1) % 18446744073709551616) ≡ bit_of b n
more_bit Published n narrow room = omega arith
more_bit Killed n narrow room = omega arith

pub more_narrow : (n : ℕ) → n < 17179869184 → count_of n + 1 < 4294967296 → (n + 1) % 18446744073709551616 < 17179869184
more_narrow n narrow room = omega arith

-- one pass less
pub less_count : (n : ℕ) → n < 17179869184 → 0 < count_of n → count_of ((n + 18446744073709551615) % 18446744073709551616) + 1 ≡ count_of n
less_count n narrow some = omega arith

pub less_bit : (b : Bit) (n : ℕ) → n < 17179869184 → 0 < count_of n → bit_of b ((n + 18446744073709551615) % 18446744073709551616) ≡ bit_of b n
less_bit Published n narrow some = omega arith
less_bit Killed n narrow some = omega arith

pub less_narrow : (n : ℕ) → n < 17179869184 → 0 < count_of n → (n + 18446744073709551615) % 18446744073709551616 < 17179869184
less_narrow n narrow some = omega arith

-- a bit is 0 or 1
pub bit_small : (b : Bit) (n : ℕ) → bit_of b n < 2
bit_small Published n = omega arith
bit_small Killed n = omega arith

-- the number that a bit adds to a word
abbrev pub mask_of : Bit → ℕ
mask_of Published = 4294967296
mask_of Killed = 8589934592

or_count : (n m : ℕ) → m % 4294967296 ≡ 0 → count_of (bit_or n m) ≡ count_of n
or_count n m h = or_mod n m 32 ∙ ap (bit_or (n % 4294967296)) h ∙ or_zero_r (n % 4294967296)

pub set_count : (b : Bit) (n : ℕ) → count_of (bit_or n (mask_of b)) ≡ count_of n
set_count Published n = or_count n 4294967296 refl
set_count Killed n = or_count n 8589934592 refl

pub set_narrow : (b : Bit) (n : ℕ) → n < 17179869184 → bit_or n (mask_of b) < 17179869184
set_narrow Published n h = or_lt 34 n 4294967296 h (omega arith)
set_narrow Killed n h = or_lt 34 n 8589934592 h (omega arith)

pub set_bit : (b : Bit) (n : ℕ) → bit_of b (bit_or n (mask_of b)) ≡ 1
set_bit Published n = let e : n / 4294967296 % 2 < 2 = omega arith in omega (arith, bit_at_or n 4294967296 32)
set_bit Killed n = let e : n / 8589934592 % 2 < 2 = omega arith in omega (arith, bit_at_or n 8589934592 33)

pub set_keeps : (b c : Bit) (n : ℕ) → bit_of c n ≤ bit_of c (bit_or n (mask_of b))
set_keeps Published Published n = omega (arith, bit_at_or n 4294967296 32)
set_keeps Published Killed n = omega (arith, bit_at_or n 4294967296 33)
set_keeps Killed Published n = omega (arith, bit_at_or n 8589934592 32)
set_keeps Killed Killed n = omega (arith, bit_at_or n 8589934592 33)
