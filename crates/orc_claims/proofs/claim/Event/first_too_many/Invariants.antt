-- Those so far are counted, and none is one too many.
use Rattle.std.proofs.Common.{◌≡◌, take}
use Rattle.orc_claims.specs.Claims.{is_counted, number}
use Rattle.orc_claims.proofs.Placed.{IsGood}
use Rattle.orc_claims.proofs.claim.Event.first_too_many.Given as goal

abbrev pub invariant-loop-at : goal.invariant-loop-at
invariant-loop-at l = record { count : l.number ≡ number l.self l.by (take l.at l.happenings); good : IsGood (is_counted l.self l.most l.by) l.at l.happenings }
