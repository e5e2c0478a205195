-- Those so far are as asked, and met the other event with the values that are known.
use Rattle.std.proofs.Common.{take}
use Rattle.orc_claims.specs.Claims.{is_prepared}
use Rattle.orc_claims.specs.Known.{AreMet}
use Rattle.orc_claims.proofs.Placed.{IsGood}
use Rattle.orc_claims.proofs.claim.Event.first_unprepared.Given as goal

abbrev pub invariant-loop-at : goal.invariant-loop-at
invariant-loop-at l = record { good : IsGood (is_prepared l.self l.other) l.at l.happenings; known : AreMet l.other (take l.at l.happenings) l.known.items }
