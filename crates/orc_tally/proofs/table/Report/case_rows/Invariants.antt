-- What is left gives the rest of the rows.
use Rattle.std.proofs.Common.{◌≡◌, ◌+◌, ◌++◌, length}
use Rattle.orc_tally.specs.Table.{case_rows}
use Rattle.orc_tally.proofs.table.Report.case_rows.Given as goal

abbrev pub decreases-loop-rest : goal.decreases-loop-rest
decreases-loop-rest l = length l.rest

abbrev pub invariant-loop-rest : goal.invariant-loop-rest
invariant-loop-rest l = (l.rows.items ++ case_rows l.fn.self.cases.now l.fn.self.searched.now l.fn.self.test.now.claims.items l.fn.self.test.now.claim_lines.items l.case l.rest ≡ case_rows l.fn.self.cases.now l.fn.self.searched.now l.fn.self.test.now.claims.items l.fn.self.test.now.claim_lines.items 0 l.fn.self.cases.now) × (l.case + length l.rest ≡ length l.fn.self.cases.now)
