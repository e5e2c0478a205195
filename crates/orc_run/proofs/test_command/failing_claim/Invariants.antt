-- What is left has it.
use Rattle.std.proofs.Common.{◌≡◌, length}
use Rattle.orc_run.specs.Tested.{failing_claim}
use Rattle.orc_run.proofs.test_command.failing_claim.Given as goal

abbrev pub decreases-loop-rest : goal.decreases-loop-rest
decreases-loop-rest l = length l.rest

abbrev pub invariant-loop-rest : goal.invariant-loop-rest
invariant-loop-rest l = failing_claim l.number l.rest ≡ failing_claim l.fn.number l.fn.rows
