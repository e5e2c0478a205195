-- Calls noted with their due times.
use Rattle.std.specs.Prelude.{◌≡◌, ◌≤◌, ◌<◌, ◌⊎◌, ℕ, List, [], ◌∷◌, Option, Some, None}
use Rattle.orc_rules.specs.Timed.{IsIn}

-- call k is noted with time t
abbrev pub IsNoted : List (ℕ × ℕ) → ℕ → ℕ → Type 0
IsNoted due t k = IsIn {X = ℕ × ℕ} (t, k) due

-- note d is there, and no note has an earlier time
abbrev pub IsEarliest : List (ℕ × ℕ) → ℕ × ℕ → Type 0
IsEarliest due d = IsNoted due d.0 d.1 × ((t k : ℕ) → IsNoted due t k → d.0 ≤ t)

-- k is the least number, `from` or more, that is noted with time t
abbrev pub IsLeastFrom : List (ℕ × ℕ) → ℕ → ℕ → ℕ → Type 0
IsLeastFrom due t from k = IsNoted due t k × (from ≤ k) × ((j : ℕ) → IsNoted due t j → from ≤ j → k ≤ j)

-- all notes stay but that of call k with time t, which may go
abbrev pub KeepsBut : List (ℕ × ℕ) → List (ℕ × ℕ) → ℕ → ℕ → Type 0
KeepsBut due due' t k = (u j : ℕ) → IsNoted due u j → IsNoted due' u j ⊎ ((u ≡ t) × (j ≡ k))

-- ---- how they are kept

-- one note comes before another: at an earlier time, or with a lesser number
abbrev pub IsBefore : ℕ × ℕ → ℕ × ℕ → Type 0
IsBefore a b = (a.0 < b.0) ⊎ ((a.0 ≡ b.0) × (a.1 < b.1))

-- all notes: the first, if there is one, and the others
abbrev pub notes_of : Option (ℕ × ℕ) → List (ℕ × ℕ) → List (ℕ × ℕ)
notes_of (Some a) others = a ∷ others
notes_of None others = others

-- the first note comes before all others; without a first note there are no others
abbrev pub IsFirst : Option (ℕ × ℕ) → List (ℕ × ℕ) → Type 0
IsFirst (Some a) others = (b : ℕ × ℕ) → IsIn b others → IsBefore a b
IsFirst None others = others ≡ []
