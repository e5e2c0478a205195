-- What is left gives the rest of the list.
use Rattle.std.proofs.Common.{◌≡◌, ◌++◌, length}
use Rattle.orc_tally.specs.Told.{noted_all}
use Rattle.orc_tally.proofs.told.noted.Given as goal

abbrev pub decreases-loop-rest : goal.decreases-loop-rest
decreases-loop-rest l = length l.rest

abbrev pub invariant-loop-rest : goal.invariant-loop-rest
invariant-loop-rest l = l.all.items ++ noted_all l.way l.order l.rest l.others ≡ noted_all l.way l.order l.fn.told l.fn.judged
