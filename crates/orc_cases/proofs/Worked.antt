-- Numbers as intervals, worked out.
use Rattle.std.proofs.Common.{◌≡◌, ℕ, [], ◌∷◌, refl}
use Rattle.orc_cases.specs.Intervals.{intervals}
use Rattle.orc_cases.specs.declared.intervals.Interval.{Interval}

abbrev from_to : ℕ → ℕ → Interval
from_to n m = record { first = n; last = m }

none : intervals [] ≡ []
none = refl

alone : intervals (4 ∷ []) ≡ from_to 4 4 ∷ []
alone = refl

touching : intervals (3 ∷ 4 ∷ 5 ∷ 9 ∷ []) ≡ from_to 3 5 ∷ from_to 9 9 ∷ []
touching = refl

repeated : intervals (0 ∷ 0 ∷ 2 ∷ 2 ∷ 3 ∷ 3 ∷ 3 ∷ 7 ∷ []) ≡ from_to 0 0 ∷ from_to 2 3 ∷ from_to 7 7 ∷ []
repeated = refl

-- up to the last number of 64 bits
to_the_last : intervals (0 ∷ 18446744073709551614 ∷ 18446744073709551615 ∷ 18446744073709551615 ∷ []) ≡ from_to 0 0 ∷ from_to 18446744073709551614 18446744073709551615 ∷ []
to_the_last = refl
