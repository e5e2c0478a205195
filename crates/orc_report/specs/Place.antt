-- Where a byte of a text stands.
use Rattle.std.specs.Prelude.{◌≡◌, ◌≢◌, ◌⊎◌, ℕ, ◌+◌, ◌<◌, ◌≤◌, Bool, ◌||◌, ◌==◌, List, nat_lt, nat_le, slice_index}

abbrev pub is_line_feed : ℕ → Bool
is_line_feed b = b == 10

-- the byte is the first one of a character of UTF-8: each further one is from 128 to 191
abbrev pub begins_character : ℕ → Bool
begins_character b = nat_lt b 128 || nat_le 192 b

-- a line begins at the first place, and holds all bytes up to the second: a text begins there or a line feed stands before it, and none between
pub record BeginsLine (text : List ℕ) (start at : ℕ) : Type 0 where
  pub before : start ≤ at
  pub edge : (start ≡ 0) ⊎ ((k : ℕ) × (start ≡ k + 1) × (slice_index text k ≡ 10))
  pub whole : (k : ℕ) → start ≤ k → k < at → slice_index text k ≢ 10
