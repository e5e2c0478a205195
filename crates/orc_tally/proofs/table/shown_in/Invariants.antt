-- What is left shows the same.
use Rattle.std.proofs.Common.{◌≡◌, ◌+◌, length}
use Rattle.orc_tally.specs.Table.{shown_in}
use Rattle.orc_tally.proofs.table.shown_in.Given as goal

abbrev pub decreases-loop-rest : goal.decreases-loop-rest
decreases-loop-rest l = length l.rest

abbrev pub invariant-loop-rest : goal.invariant-loop-rest
invariant-loop-rest l = (shown_in l.section l.claim l.case l.rest ≡ shown_in l.fn.section l.fn.claim 0 l.fn.cases) × (l.case + length l.rest ≡ length l.fn.cases)
