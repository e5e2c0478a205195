-- What is left has it.
use Rattle.std.proofs.Common.{◌≡◌, length}
use Rattle.orc_tally.specs.Table.{failure_at}
use Rattle.orc_tally.proofs.table.failure_at.Given as goal

abbrev pub decreases-loop-rest : goal.decreases-loop-rest
decreases-loop-rest l = length l.rest

abbrev pub invariant-loop-rest : goal.invariant-loop-rest
invariant-loop-rest l = failure_at l.number l.rest ≡ failure_at l.fn.number l.fn.rows
