-- What is left gives the rest of the line.
use Rattle.std.proofs.Common.{◌≡◌, ◌+◌, ◌++◌, length, true}
use Rattle.orc_tally.specs.Table.{shares}
use Rattle.orc_tally.proofs.table.Report.write_shares.Given as goal

abbrev pub decreases-loop-rest : goal.decreases-loop-rest
decreases-loop-rest l = length l.rest

abbrev pub invariant-loop-rest : goal.invariant-loop-rest
invariant-loop-rest l = (l.text.items ++ shares l.fn.self.test.now.cases.items l.section l.claim l.is_first l.case l.rest ≡ l.fn.text.items ++ shares l.fn.self.test.now.cases.items l.fn.section l.fn.claim true 0 l.fn.self.cases.now) × (l.case + length l.rest ≡ length l.fn.self.cases.now)
