-- As many so far.
use Rattle.std.proofs.Common.{◌≡◌, map, take}
use Rattle.orc_tally.specs.Told.{nothing}
use Rattle.orc_tally.proofs.told.nothing_told.Given as goal

abbrev pub invariant-loop-claim : goal.invariant-loop-claim
invariant-loop-claim l = l.all.items ≡ map (λ c. nothing) (take l._claim-index l.claims)
