-- What is left gives the same size.
use Rattle.std.proofs.Common.{◌≡◌, length}
use Rattle.orc_cases.specs.Sizes.{history_from}
use Rattle.orc_cases.proofs.sizes.history_size.Given as goal

abbrev pub decreases-loop-rest : goal.decreases-loop-rest
decreases-loop-rest l = length l.rest

abbrev pub invariant-loop-rest : goal.invariant-loop-rest
invariant-loop-rest l = history_from l.size l.rest ≡ history_from 1 l.fn.replies
