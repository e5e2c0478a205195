-- What is left has the other claims.
use Rattle.std.proofs.Common.{◌≡◌, ◌≤◌, ◌+◌, length}
use Rattle.orc_tally.specs.Table.{claims_told}
use Rattle.orc_tally.proofs.table.claims_told.Given as goal

abbrev pub decreases-loop-rest : goal.decreases-loop-rest
decreases-loop-rest l = length l.rest

abbrev pub invariant-loop-rest : goal.invariant-loop-rest
invariant-loop-rest l = (l.number + claims_told l.rest ≡ claims_told l.fn.rows) × (l.number + length l.rest ≤ length l.fn.rows)
