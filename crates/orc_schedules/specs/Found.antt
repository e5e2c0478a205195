-- States that were looked at have every end.
use Rattle.std.specs.Prelude.{◌<◌, ℕ, suc, ◌*◌, ◌^◌, List, []}
use Rattle.orc_rules.specs.Nodes.{Listing}
use Rattle.orc_rules.specs.Sites.{Table}
use Rattle.orc_rules.specs.Timed.{IsIn}
use Rattle.orc_claims.specs.declared.claim.Simple.{Simple}
use Rattle.orc_tally.specs.declared.sight.ClaimSite.{ClaimSite}
use Rattle.orc_search.specs.Programs.{small_definitions}
use Rattle.orc_schedules.specs.Reached.{Reached, EndSeen, first, AreAllSeen}
use Rattle.orc_schedules.specs.Seen.{kept, nothing_yet}
use Rattle.orc_schedules.specs.Tables.{IsLookedAt}

-- if the first state is one of the states, all states were looked at, and waits are so short that no run within the limit reaches the time 2^64,
-- then the ends that were found include the end of each run within the limit that ends by itself, with what of the run is named
abbrev pub AllAreFound : Type 0
AllAreFound = (l : Listing) (t : Table) (names : List Simple) (sites : List ClaimSite) (latest limit longest : ℕ) (rs : List Reached) (os : List EndSeen)
    → ((r : Reached) → IsIn r rs → IsLookedAt (small_definitions l) (kept names sites latest) rs longest os r) → IsIn {X = Reached} (first l t, nothing_yet) rs → suc limit * longest < 2 ^ 64
    → AreAllSeen l t names sites latest limit os
