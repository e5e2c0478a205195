-- The values so far are counted.
use Rattle.std.proofs.Common.{◌≡◌, take}
use Rattle.orc_claims.specs.Claims.{times}
use Rattle.orc_claims.proofs.publications.times.Given as goal

abbrev pub invariant-loop-at : goal.invariant-loop-at
invariant-loop-at l = l.times ≡ times l.value (take l.at l.values)
