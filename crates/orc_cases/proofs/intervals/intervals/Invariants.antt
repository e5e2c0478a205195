-- What is left has the other intervals.
use Rattle.std.proofs.Common.{◌≡◌, ◌++◌, length}
use Rattle.orc_cases.specs.Intervals.{intervals, runs}
use Rattle.orc_cases.proofs.intervals.intervals.Given as goal

abbrev pub decreases-loop-rest : goal.decreases-loop-rest
decreases-loop-rest l = length l.rest

abbrev pub invariant-loop-rest : goal.invariant-loop-rest
invariant-loop-rest l = l.all.items ++ runs l.open l.rest ≡ intervals l.fn.numbers
