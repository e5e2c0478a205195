-- What is left has one where the whole has.
use Rattle.std.proofs.Common.{◌≡◌, length}
use Rattle.orc_claims.specs.Claims.{any_meets}
use Rattle.orc_claims.proofs.claim.Event.any_meets.Given as goal

abbrev pub decreases-loop-rest : goal.decreases-loop-rest
decreases-loop-rest l = length l.rest

abbrev pub invariant-loop-rest : goal.invariant-loop-rest
invariant-loop-rest l = any_meets l.self l.given l.since l.most l.rest ≡ any_meets l.fn.self l.fn.given l.fn.since l.fn.most l.fn.happenings
