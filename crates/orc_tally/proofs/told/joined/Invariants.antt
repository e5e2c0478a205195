-- What is left gives the rest of the list.
use Rattle.std.proofs.Common.{◌≡◌, ◌++◌, length}
use Rattle.orc_tally.specs.Told.{joined_all}
use Rattle.orc_tally.proofs.told.joined.Given as goal

abbrev pub decreases-loop-rest : goal.decreases-loop-rest
decreases-loop-rest l = length l.rest

abbrev pub invariant-loop-rest : goal.invariant-loop-rest
invariant-loop-rest l = l.all.items ++ joined_all l.rest l.added ≡ joined_all l.fn.told l.fn.others
