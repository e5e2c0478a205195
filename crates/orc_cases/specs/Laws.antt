-- What the ways of a case are, in words.
use Rattle.std.specs.Prelude.{ℕ, List}
use Rattle.std.specs.List.Sorted.{IsPermutation}
use Rattle.orc_cases.specs.Intervals.{AreIntervals, ascending, intervals}
use Rattle.orc_cases.specs.Ways.{CaseWays, choices_of, combinations, ways}

-- each combination of what the lines may do is a way, and no other, and each is one as often as it is a combination
abbrev pub EachOnce : Type 0
EachOnce = (c : CaseWays) → IsPermutation (combinations (choices_of c.lines)) (ways c)

-- numbers in any order are intervals: these have exactly these numbers, each is as long as it can be, and they stand in their order
abbrev pub EachMaximal : Type 0
EachMaximal = (ns : List ℕ) → AreIntervals ns (intervals (ascending ns))
