-- Those so far are as asked.
use Rattle.orc_claims.specs.Claims.{is_allowed}
use Rattle.orc_claims.proofs.Placed.{IsGood}
use Rattle.orc_claims.proofs.claim.Event.first_forbidden.Given as goal

abbrev pub invariant-loop-at : goal.invariant-loop-at
invariant-loop-at l = IsGood (is_allowed l.self l.other) l.at l.happenings
