-- What a search for a claim answers.
use Rattle.std.specs.Prelude.{◌≡◌, ℕ, List, map, true, false}
use Rattle.orc_rules.specs.Nodes.{Listing}
use Rattle.orc_rules.specs.Sites.{Table}
use Rattle.orc_claims.specs.Claims.{holds}
use Rattle.orc_claims.specs.Happenings.{happenings}
use Rattle.orc_claims.specs.declared.claim.Claim.{Claim}
use Rattle.orc_tally.specs.Sight.{renumbered}
use Rattle.orc_tally.specs.declared.sight.ClaimSite.{ClaimSite}
use Rattle.orc_outcome.specs.Outcome.{Outcome, IsRun}
use Rattle.orc_schedules.specs.Reached.{HasEnded}
use Rattle.orc_schedules.specs.Seen.{seen_of}
use Rattle.orc_schedules.specs.Watch.{latest_of, state_of_end, watched}
use Rattle.orc_schedules.specs.declared.claimed.ClaimSearched.{ClaimSearched}
use Rattle.orc_schedules.specs.declared.claimed.ClaimSearched.TheVariants.{Holds, Fails, TooMany, TooLong, NotWatched}
use Rattle.orc_schedules.specs.declared.claimed.Seen.{Seen}

-- the claim holds in each run of the program with these sites within the limit that has ended by itself
abbrev pub HoldsInAll : Listing → Table → List ClaimSite → Claim → ℕ → Type 0
HoldsInAll l t sites c limit = (o : Outcome) → IsRun l t limit o → HasEnded o.end → holds c (happenings (map (renumbered sites) o.journal)) (state_of_end o.end) o.now ≡ true

-- the claim fails in a run that ended so, within some limit of entries; s has what happened in the run of what the claim names, with times as far
-- as the claim tells them apart
pub record FailsInOne (l : Listing) (t : Table) (sites : List ClaimSite) (c : Claim) (s : Seen) : Type 0 where
  pub limit : ℕ
  pub outcome : Outcome
  pub run : IsRun l t limit outcome
  pub end : outcome.end ≡ s.end
  pub fails : holds c (happenings (map (renumbered sites) outcome.journal)) (state_of_end outcome.end) outcome.now ≡ false
  pub seen : seen_of (watched c) sites (latest_of c) outcome.journal outcome.now ≡ record { happened = s.happened.items; now = s.now }

-- the claim holds in all runs, or fails in this one, or the search came to a bound, or can't watch for it
abbrev pub IsClaimSearched : Listing → Table → List ClaimSite → Claim → ℕ → ClaimSearched → Type 0
IsClaimSearched l t sites c limit (Holds states) = HoldsInAll l t sites c limit
IsClaimSearched l t sites c limit (Fails s) = FailsInOne l t sites c s
IsClaimSearched l t sites c limit TooMany = Unit {0}
IsClaimSearched l t sites c limit TooLong = Unit {0}
IsClaimSearched l t sites c limit NotWatched = Unit {0}
