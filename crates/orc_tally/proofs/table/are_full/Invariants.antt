-- What is left tells the same.
use Rattle.std.proofs.Common.{◌≡◌, ◌+◌, length}
use Rattle.orc_tally.specs.Table.{are_full}
use Rattle.orc_tally.proofs.table.are_full.Given as goal

abbrev pub decreases-loop-rest : goal.decreases-loop-rest
decreases-loop-rest l = length l.rest

abbrev pub invariant-loop-rest : goal.invariant-loop-rest
invariant-loop-rest l = (are_full l.section l.case l.rest ≡ are_full l.fn.section 0 l.fn.cases) × (l.case + length l.rest ≡ length l.fn.cases)
