-- Ends that are told are those of runs.
use Rattle.std.specs.Prelude.{◌≡◌, ◌<◌, ◌≤◌, ℕ, ◌*◌, ◌^◌, ◌⊎◌, List, [], length, Some, slice_get}
use Rattle.orc_rules.specs.Nodes.{Listing}
use Rattle.orc_rules.specs.Sites.{Table}
use Rattle.orc_rules.specs.Timed.{IsIn}
use Rattle.orc_rules.specs.Trace.{published}
use Rattle.orc_claims.specs.declared.claim.Simple.{Simple}
use Rattle.orc_tally.specs.declared.sight.ClaimSite.{ClaimSite}
use Rattle.orc_outcome.specs.Outcome.{Outcome, IsRun}
use Rattle.orc_search.specs.Early.{IsAhead}
use Rattle.orc_search.specs.Moves.{SmallDefinition}
use Rattle.orc_search.specs.Graphs.{Ending}
use Rattle.orc_search.specs.Graphs as graph
use Rattle.orc_search.specs.Programs.{small_definitions}
use Rattle.orc_search.specs.States.{State, Sight, happens, waits, Goes}
use Rattle.orc_schedules.specs.Reached.{Reached, EndSeen, first, end_of}
use Rattle.orc_schedules.specs.Seen.{Kept, Past, is_unkept, kept, nothing_yet, seen_after, seen_of}
use Rattle.orc_schedules.specs.declared.ended.Ended.{Ended}

-- a run of the program with these sites ended so, within a limit that is high enough
pub record IsEndOfRun (l : Listing) (t : Table) (e : Ended) : Type 0 where
  pub limit : ℕ
  pub outcome : Outcome
  pub run : IsRun l t limit outcome
  pub end : outcome.end ≡ e.end
  pub shows : published outcome.journal ≡ e.values.items

-- each of these ends is that of a run
abbrev pub AreOfRuns : Listing → Table → List Ended → Type 0
AreOfRuns l t es = (e : Ended) → IsIn e es → IsEndOfRun l t e

-- a run ended so, and of it this is named
pub record IsSeenOfRun (l : Listing) (t : Table) (names : List Simple) (sites : List ClaimSite) (latest : ℕ) (o : EndSeen) : Type 0 where
  pub limit : ℕ
  pub outcome : Outcome
  pub run : IsRun l t limit outcome
  pub end : outcome.end ≡ o.0
  pub shows : seen_of names sites latest outcome.journal outcome.now ≡ o.1
  pub early : outcome.now < 2 ^ 64

-- how long it takes
abbrev pub time_of : Sight → ℕ
time_of (happens h) = 0
time_of (waits by) = by

-- s with p comes from a state before this place in the list: early steps lead from that state to one that goes to s, in at most `longest` units of
-- time, and p is what was seen before with what is seen on the way
pub record ComesFrom (defs : List SmallDefinition) (keep : Kept) (longest : ℕ) (rs : List Reached) (place : ℕ) (s : State) (p : Past) : Type 0 where
  pub at : ℕ
  pub before : at < place
  pub from : Reached
  pub there : slice_get rs at ≡ Some from
  pub ahead : State
  pub is : IsAhead defs (is_unkept keep) from.0 ahead
  pub sight : Sight
  pub goes : Goes defs ahead sight s
  pub shows : seen_after keep from.1 sight ≡ p
  pub short : time_of sight ≤ longest

-- each of the states is the first one, or comes from one before it in the list
abbrev pub AreFoundFrom : List SmallDefinition → Kept → ℕ → State → List Reached → Type 0
AreFoundFrom defs keep longest begin rs = (i : ℕ) (s : State) (p : Past) → slice_get rs i ≡ Some (s, p) → ((s ≡ begin) × (p ≡ nothing_yet)) ⊎ ComesFrom defs keep longest rs i s p

-- a state to which early steps lead from one of the states says this end
pub record IsSaid (defs : List SmallDefinition) (keep : Kept) (rs : List Reached) (o : EndSeen) : Type 0 where
  pub state : State
  pub ending : Ending
  pub is : IsIn {X = Reached} (state, o.1) rs
  pub ahead : State
  pub leads : IsAhead defs (is_unkept keep) state ahead
  pub says : graph.ending defs ahead.term ≡ Some ending
  pub end : o.0 ≡ end_of ending

-- if each state is the first one or comes from one before it, and no path to one of them reaches the time 2^64, they say only ends of runs
abbrev pub FoundAreOfRuns : Type 0
FoundAreOfRuns = (l : Listing) (t : Table) (names : List Simple) (sites : List ClaimSite) (latest longest : ℕ) (rs : List Reached) (o : EndSeen)
    → AreFoundFrom (small_definitions l) (kept names sites latest) longest (first l t) rs → length rs * longest < 2 ^ 64 → IsSaid (small_definitions l) (kept names sites latest) rs o
    → IsSeenOfRun l t names sites latest o
