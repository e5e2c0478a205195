-- What is left has the other failures.
use Rattle.std.proofs.Common.{◌≡◌, ◌≤◌, ◌+◌, length}
use Rattle.orc_tally.specs.Table.{failing}
use Rattle.orc_tally.proofs.table.failing.Given as goal

abbrev pub decreases-loop-rest : goal.decreases-loop-rest
decreases-loop-rest l = length l.rest

abbrev pub invariant-loop-rest : goal.invariant-loop-rest
invariant-loop-rest l = (l.number + failing l.rest ≡ failing l.fn.rows) × (l.number + length l.rest ≤ length l.fn.rows)
