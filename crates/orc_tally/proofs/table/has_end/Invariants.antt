-- What is left tells the same.
use Rattle.std.proofs.Common.{◌≡◌, length}
use Rattle.orc_tally.specs.Table.{has_end}
use Rattle.orc_tally.proofs.table.has_end.Given as goal

abbrev pub decreases-loop-rest : goal.decreases-loop-rest
decreases-loop-rest l = length l.rest

abbrev pub invariant-loop-rest : goal.invariant-loop-rest
invariant-loop-rest l = has_end l.fn.case l.rest l.behind ≡ has_end l.fn.case l.fn.claims l.fn.lines
