-- Those so far are as asked.
use Rattle.orc_claims.specs.Claims.{is_followed}
use Rattle.orc_claims.proofs.Placed.{IsGood}
use Rattle.orc_claims.proofs.claim.Event.first_unfollowed.Given as goal

abbrev pub invariant-loop-at : goal.invariant-loop-at
invariant-loop-at l = IsGood (is_followed l.self l.other l.within) l.at l.happenings
