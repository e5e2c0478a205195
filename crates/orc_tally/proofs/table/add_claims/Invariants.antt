-- What is left gives the rest of the rows.
use Rattle.std.proofs.Common.{◌≡◌, ◌+◌, ◌++◌, length}
use Rattle.orc_tally.specs.Table.{claim_rows}
use Rattle.orc_tally.proofs.table.add_claims.Given as goal

abbrev pub decreases-loop-rest : goal.decreases-loop-rest
decreases-loop-rest l = length l.rest

abbrev pub invariant-loop-rest : goal.invariant-loop-rest
invariant-loop-rest l = (l.rows.items ++ claim_rows l.cases l.searched l.section l.claim l.rest ≡ l.fn.rows.items ++ claim_rows l.fn.cases l.fn.searched l.fn.section 0 l.fn.claims) × (l.claim + length l.rest ≡ length l.fn.claims)
