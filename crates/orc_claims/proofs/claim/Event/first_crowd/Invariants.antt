-- Those so far are counted, and at none were too many out.
use Rattle.std.proofs.Common.{◌≡◌, ◌≤◌, take}
use Rattle.orc_claims.specs.Claims.{is_uncrowded, out}
use Rattle.orc_claims.proofs.Placed.{IsGood}
use Rattle.orc_claims.proofs.claim.Event.first_crowd.Given as goal

abbrev pub invariant-loop-at : goal.invariant-loop-at
invariant-loop-at l = record { count : l.out ≡ out l.self 0 (take l.at l.happenings); most : l.out ≤ l.at; good : IsGood (is_uncrowded l.self l.most) l.at l.happenings }
