-- What is left gives the rest of the text.
use Rattle.std.proofs.Common.{◌≡◌, ◌++◌, length, true}
use Rattle.orc_cases.specs.Texts.{intervals_text}
use Rattle.orc_cases.proofs.text.push_intervals.Given as goal

abbrev pub decreases-loop-rest : goal.decreases-loop-rest
decreases-loop-rest l = length l.rest

abbrev pub invariant-loop-rest : goal.invariant-loop-rest
invariant-loop-rest l = l.out.items ++ intervals_text l.is_first l.rest ≡ l.fn.out.items ++ intervals_text true l.fn.intervals
