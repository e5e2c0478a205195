-- What stands in the tables of a search.
use Rattle.std.specs.Prelude.{◌≡◌, ◌<◌, ◌≤◌, ℕ, List, [], ◌∷◌, map, length, Bool, not, cond, Option, Some, slice_get}
use Rattle.orc_rules.specs.Sites.{Site}
use Rattle.orc_rules.specs.Timed.{IsIn}
use Rattle.orc_search.specs.declared.successor.Successor.{Successor}
use Rattle.orc_search.specs.Asked.{coming_of_made}
use Rattle.orc_search.specs.Early.{IsAhead, Leads}
use Rattle.orc_search.specs.Graphs.{Ending, halted, quiet_if, ending}
use Rattle.orc_search.specs.Moves.{SmallDefinition}
use Rattle.orc_search.specs.Moving.{happening_of}
use Rattle.orc_search.specs.Nodes.{small_at, smalls}
use Rattle.orc_search.specs.States.{State, Sight, happens, waits as passes, Coming, coming_after, Goes}
use Rattle.orc_search.specs.Successors.{least_left, wait}
use Rattle.orc_search.specs.Small.{Small}
use Rattle.orc_search.specs.Ticks.{is_over, pass}
use Rattle.orc_schedules.specs.declared.states.Key.{Key}
use Rattle.orc_schedules.specs.declared.told.Told.{Told}
use Rattle.orc_schedules.specs.declared.tables.Tables.{Tables}
use Rattle.orc_schedules.specs.Counts.{made_at}
use Rattle.orc_schedules.specs.Growing.{Grows}
use Rattle.orc_schedules.specs.Lists.{list_at, lists}
use Rattle.orc_schedules.specs.Reached.{Reached, EndSeen, end_of}
use Rattle.orc_schedules.specs.Seen.{Kept, Past, is_unkept, seen_after}

-- a state's numbers are those of a term, of a list of calls and of a list of what was seen that are there
abbrev pub IsKnown : Tables → Key → Type 0
IsKnown t k = (k.term < length (smalls t.terms)) × (k.made < length t.counts) × (k.seen < length (lists t.lists))

-- so are those of all states, and those of all ends
abbrev pub AreKnown : Tables → Type 0
AreKnown t = ((i : ℕ) (k : Key) → slice_get t.states i ≡ Some k → IsKnown t k) × ((i : ℕ) (e : Told) → slice_get t.ends i ≡ Some e → e.seen < length (lists t.lists))

-- what was seen, by the number of its list
abbrev pub seen_at : Tables → ℕ → Past
seen_at t i = list_at (lists t.lists) i

-- what the calls to come are answered, by the number of the list of those that were made
abbrev pub coming_at : List Site → Tables → ℕ → Coming
coming_at sites t i = coming_of_made sites (made_at t.counts i)

-- a state by its numbers
abbrev pub reached_at : List Site → Tables → Key → Reached
reached_at sites t k = (record { term = small_at (smalls t.terms) k.term; coming = coming_at sites t k.made }, seen_at t k.seen)

-- all states by their numbers
abbrev pub reached : List Site → Tables → List Reached
reached sites t = map (reached_at sites t) t.states

-- an end: how a run ended, and what was seen of it
abbrev pub outcome_at : Tables → Told → EndSeen
outcome_at t e = (e.end, seen_at t e.seen)

-- all ends
abbrev pub outcomes : Tables → List EndSeen
outcomes t = map (outcome_at t) t.ends

-- all that was there stays, with its number
pub record Keeps (t u : Tables) : Type 0 where
  pub terms : Grows (smalls t.terms) (smalls u.terms)
  pub counts : Grows t.counts u.counts
  pub lists : Grows (lists t.lists) (lists u.lists)
  pub states : Grows t.states u.states
  pub ends : Grows t.ends u.ends
  pub longest : t.longest ≤ u.longest

-- the state of this term is found and no other, beside terms and lists of calls that stay
pub record IsBegun (term : ℕ) (t u : Tables) : Type 0 where
  pub terms : u.terms ≡ t.terms
  pub counts : u.counts ≡ t.counts
  pub lists : u.lists ≡ record { calls = []; longer = [] }
  pub ends : u.ends ≡ []
  pub states : u.states ≡ record { term = term; made = 0; seen = 0 } ∷ []

-- what a state becomes by a successor of its term
abbrev pub after : Kept → List Site → Tables → Key → Successor → Reached
after keep sites t k s = (record { term = small_at (smalls t.terms) s.to; coming = coming_after (happening_of s.happening) (coming_at sites t k.made) }, seen_after keep (seen_at t k.seen) (happens (happening_of s.happening)))

-- all that may come of a reached state is among those that are reached, its wait is no longer than the longest, and its end is told
pub record IsDone (defs : List SmallDefinition) (keep : Kept) (rs : List Reached) (longest : ℕ) (os : List EndSeen) (r : Reached) : Type 0 where
  pub followed : (v : Sight) (s : State) → Goes defs r.0 v s → IsIn {X = Reached} (s, seen_after keep r.1 v) rs
  pub waits : (by : ℕ) → wait defs r.0.term ≡ Some by → by ≤ longest
  pub told : (e : Ending) → ending defs r.0.term ≡ Some e → IsIn {X = EndSeen} (end_of e, r.1) os

-- it was looked at: all this holds of a state to which early steps lead from it, none of which is kept
pub record IsLookedAt (defs : List SmallDefinition) (keep : Kept) (rs : List Reached) (longest : ℕ) (os : List EndSeen) (r : Reached) : Type 0 where
  pub ahead : State
  pub is : IsAhead defs (is_unkept keep) r.0 ahead
  pub done : IsDone defs keep rs longest os (ahead, r.1)

-- the first n states were looked at
abbrev pub AreDone : List SmallDefinition → Kept → List Site → Tables → ℕ → Type 0
AreDone defs keep sites t n = (i : ℕ) (k : Key) → i < n → slice_get t.states i ≡ Some k → IsLookedAt defs keep (reached sites t) t.longest (outcomes t) (reached_at sites t k)

-- what a state becomes once so much time has passed
abbrev pub waited : Kept → List Site → Tables → Key → ℕ → Reached
waited keep sites t k by = (record { term = pass by (small_at (smalls t.terms) k.term); coming = coming_at sites t k.made }, seen_after keep (seen_at t k.seen) (passes by))

-- how a run can end at a term, where it is known whether nothing can move there
abbrev pub ending_if : Bool → Small → Option Ending
ending_if still f = cond (is_over f) (Some halted) (quiet_if (not still) (least_left f))

-- early steps, none of which is kept, lead from a state's term to another one
abbrev pub LeadsTo : List SmallDefinition → Kept → List Site → Tables → Key → ℕ → Type 0
LeadsTo defs keep sites t k term = Leads defs (is_unkept keep) (coming_at sites t k.made) (small_at (smalls t.terms) k.term) (small_at (smalls t.terms) term)
