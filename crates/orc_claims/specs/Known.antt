-- Values of variables that were found before.
use Rattle.std.specs.Prelude.{◌≡◌, List, None, true}
use Rattle.std.specs.Global.{Vec}
use Rattle.std.specs.List.{All}
use Rattle.orc_claims.specs.Claims.{any_meets}
use Rattle.orc_claims.specs.declared.claim.Event.{Event}
use Rattle.orc_claims.specs.declared.happening.Happening.{Happening}
use Rattle.orc_claims.specs.declared.event_match.Bound.{Bound}

-- one of these happenings met the event with each of these values
abbrev pub AreMet : Event → List Happening → List (Vec Bound) → Type 0
AreMet e hs known = All (λ k. any_meets e k.items 0 None hs ≡ true) known
