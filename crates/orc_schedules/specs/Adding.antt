-- What the steps of a search add to its tables, and what that comes from.
use Rattle.std.specs.Prelude.{◌≡◌, ◌≤◌, ℕ, List, Bool, Option, Some, ◌⊎◌, slice_get}
use Rattle.orc_rules.specs.declared.value.Value.{Value}
use Rattle.orc_rules.specs.Sites.{Site}
use Rattle.orc_rules.specs.Timed.{IsIn}
use Rattle.orc_claims.specs.Claims.{holds}
use Rattle.orc_claims.specs.declared.claim.Claim.{Claim}
use Rattle.orc_outcome.specs.declared.end.End.{End}
use Rattle.orc_search.specs.declared.successor.Successor.{Successor}
use Rattle.orc_search.specs.Early.{IsAhead}
use Rattle.orc_search.specs.Graphs.{Ending}
use Rattle.orc_search.specs.Moves.{SmallDefinition}
use Rattle.orc_search.specs.Nodes.{small_at, smalls}
use Rattle.orc_search.specs.States.{State, Sight, Goes}
use Rattle.orc_search.specs.Successors.{least_left, some_time}
use Rattle.orc_schedules.specs.declared.claimed.Seen.{Seen}
use Rattle.orc_schedules.specs.declared.ended.Ended.{Ended}
use Rattle.orc_schedules.specs.declared.states.Key.{Key}
use Rattle.orc_schedules.specs.declared.tables.Tables.{Tables}
use Rattle.orc_schedules.specs.Ends.{AreFoundFrom, IsSaid, time_of}
use Rattle.orc_schedules.specs.Reached.{Reached, EndSeen, end_of}
use Rattle.orc_schedules.specs.Seen.{Kept, Past, is_unkept, seen_after, values_of}
use Rattle.orc_schedules.specs.Tables.{outcomes, reached, reached_at, after, waited}
use Rattle.orc_schedules.specs.Watch.{state_of_end}

-- an outcome: how a run ended, and what it published
abbrev pub Outcome : Type 0
Outcome = End × List Value

-- an end that is listed
abbrev pub outcome_of : Ended → Outcome
outcome_of e = (e.end, e.values.items)

-- the outcome of an end
abbrev pub shown_of : EndSeen → Outcome
shown_of o = (o.0, values_of o.1)

-- an end with what was seen
abbrev pub end_seen : Seen → EndSeen
end_seen s = (s.end, record { happened = s.happened.items; now = s.now })

-- whether a claim holds where a run ended so, of which this was seen
abbrev pub holds_by : Claim → EndSeen → Bool
holds_by c o = holds c o.1.happened (state_of_end o.0) o.1.now

-- each state of the tables u is one of t at the same place, or is such a one
abbrev pub AddsOnly : List Site → (Reached → Type 0) → Tables → Tables → Type 0
AddsOnly sites Fits t u = (i : ℕ) (k : Key) → slice_get u.states i ≡ Some k → (slice_get t.states i ≡ Some k) ⊎ Fits (reached_at sites u k)

-- what one of these successors makes of a state
abbrev pub IsAfterOne : Kept → List Site → Tables → Key → List Successor → Reached → Type 0
IsAfterOne keep sites t k next r = (i : ℕ) × (s : Successor) × (slice_get next i ≡ Some s) × (r ≡ after keep sites t k s)

-- what a state becomes once the time has passed that a call has left in it, no longer than this
abbrev pub IsWaited : Kept → List Site → Tables → Key → ℕ → Reached → Type 0
IsWaited keep sites t k longest r = (by : ℕ) × (some_time (least_left (small_at (smalls t.terms) k.term)) ≡ Some by) × (r ≡ waited keep sites t k by) × (by ≤ longest)

-- each outcome of us is among os, or is this end with this seen
abbrev pub AddsEnd : List EndSeen → Option Ending → Past → List EndSeen → Type 0
AddsEnd os end p us = (o : EndSeen) → IsIn o us → IsIn o os ⊎ ((e : Ending) × (end ≡ Some e) × (o ≡ (end_of e, p)))

-- a state to which early steps lead from the first one goes to the second, in no more time than this
pub record ComesBy (defs : List SmallDefinition) (keep : Kept) (longest : ℕ) (r s : Reached) : Type 0 where
  pub ahead : State
  pub is : IsAhead defs (is_unkept keep) r.0 ahead
  pub sight : Sight
  pub goes : Goes defs ahead sight s.0
  pub shows : seen_after keep r.1 sight ≡ s.1
  pub short : time_of sight ≤ longest

-- the states in the tables come one from another, and states say the ends
pub record AreFound (defs : List SmallDefinition) (keep : Kept) (begin : State) (sites : List Site) (t : Tables) : Type 0 where
  pub states : AreFoundFrom defs keep t.longest begin (reached sites t)
  pub ends : (o : EndSeen) → IsIn o (outcomes t) → IsSaid defs keep (reached sites t) o
