-- What a search has found when it stops.
use Rattle.std.specs.Prelude.{◌≡◌, ◌<◌, ◌*◌, ◌^◌, ℕ, suc, [], ◌∷◌, length, Bool, true, false, Some, slice_get}
use Rattle.orc_rules.specs.Nodes.{Listing, source}
use Rattle.orc_rules.specs.Sites.{Table}
use Rattle.orc_rules.specs.Timed.{IsIn}
use Rattle.orc_claims.specs.declared.claim.Claim.{Claim}
use Rattle.orc_search.specs.Nodes.{smalls}
use Rattle.orc_search.specs.Programs.{small, small_definitions}
use Rattle.orc_search.specs.Ready.{IsReady}
use Rattle.orc_schedules.specs.declared.claimed.ClaimSearched.{ClaimSearched}
use Rattle.orc_schedules.specs.declared.claimed.ClaimSearched.TheVariants.{Holds, Fails}
use Rattle.orc_schedules.specs.declared.exploration.Explorer.{Explorer}
use Rattle.orc_schedules.specs.declared.tables.Tables.{Tables}
use Rattle.orc_schedules.specs.Adding.{AreFound, end_seen, holds_by}
use Rattle.orc_schedules.specs.Growing.{Grows}
use Rattle.orc_schedules.specs.Listed.{AreListed}
use Rattle.orc_schedules.specs.Reached.{Reached, EndSeen, first}
use Rattle.orc_schedules.specs.Seen.{Kept, nothing_yet}
use Rattle.orc_schedules.specs.Tables.{AreDone, outcomes, reached}

-- what an explorer explores
abbrev pub program_of : Explorer → Listing
program_of e = e.source.program.now

-- and what answers its calls
abbrev pub answers_of : Explorer → Table
answers_of e = e.source.answers.now

-- it is ready for a search: the program's terms have their numbers, no calls have the number 0, and what was listed is so
pub record IsExplorer (e : Explorer) : Type 0 where
  pub ready : IsReady (smalls e.tables.terms) e.source
  pub term : slice_get (smalls e.tables.terms) e.term ≡ Some (small (source (program_of e)))
  pub counts : Grows ([] ∷ []) e.tables.counts
  pub listed : AreListed (small_definitions (program_of e)) (answers_of e).sites (smalls e.tables.terms) e.tables.counts e.moves

-- the first state is there, the others come of it, and where these are all, all that may come of each is there
pub record IsExplored (l : Listing) (t : Table) (keep : Kept) (u : Tables) (all : Bool) : Type 0 where
  pub there : IsIn {X = Reached} (first l t, nothing_yet) (reached t.sites u)
  pub found : AreFound (small_definitions l) keep (first l t) t.sites u
  pub done : all ≡ true → AreDone (small_definitions l) keep t.sites u (length u.states)

-- if the answer is that a claim fails, it fails at an end that was found, and no path to a state can reach the time 2^64
abbrev pub IfFails : Tables → Claim → ClaimSearched → Type 0
IfFails t c (Fails s) = IsIn {X = EndSeen} (end_seen s) (outcomes t) × (holds_by c (end_seen s) ≡ false) × (length t.states * t.longest < 2 ^ 64)
IfFails t c _ = Unit {0}

-- if the answer is that a claim holds, all states were looked at, it holds at all ends, and no run within the limit can reach the time 2^64
abbrev pub IfHolds : Tables → Bool → Claim → ℕ → ClaimSearched → Type 0
IfHolds t all c limit (Holds states) = (all ≡ true) × ((o : EndSeen) → IsIn o (outcomes t) → holds_by c o ≡ true) × (suc limit * t.longest < 2 ^ 64)
IfHolds t all c limit _ = Unit {0}
