-- The happenings so far are counted.
use Rattle.std.proofs.Common.{◌≡◌, take}
use Rattle.orc_claims.specs.Claims.{number}
use Rattle.orc_claims.proofs.claim.Event.number.Given as goal

abbrev pub invariant-loop-at : goal.invariant-loop-at
invariant-loop-at l = l.number ≡ number l.self l.by (take l.at l.happenings)
