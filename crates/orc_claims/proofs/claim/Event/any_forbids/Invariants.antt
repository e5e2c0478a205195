-- What is left has one where the whole has.
use Rattle.std.proofs.Common.{◌≡◌, length}
use Rattle.orc_claims.specs.Claims.{any_forbids}
use Rattle.orc_claims.proofs.claim.Event.any_forbids.Given as goal

abbrev pub decreases-loop-rest : goal.decreases-loop-rest
decreases-loop-rest l = length l.rest

abbrev pub invariant-loop-rest : goal.invariant-loop-rest
invariant-loop-rest l = any_forbids l.self l.happening l.other l.rest ≡ any_forbids l.fn.self l.fn.happening l.fn.other l.fn.before
