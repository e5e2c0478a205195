-- What terms may do after lists of calls, listed once.
use Rattle.std.specs.Prelude.{◌≡◌, ◌<◌, ℕ, List, [], length, Option, None, Some, slice_get}
use Rattle.std.specs.List.{AllZip}
use Rattle.orc_rules.specs.Sites.{Site}
use Rattle.orc_search.specs.declared.made.Made.{Made}
use Rattle.orc_search.specs.declared.successor.Successor.{Successor}
use Rattle.orc_search.specs.Asked.{coming_of_made}
use Rattle.orc_search.specs.Moves.{SmallDefinition}
use Rattle.orc_search.specs.Moving.{IsSuccessor}
use Rattle.orc_search.specs.Nodes.{small_at}
use Rattle.orc_search.specs.Small.{Small}
use Rattle.orc_search.specs.States.{next_call}
use Rattle.orc_search.specs.Successors.{moves}
use Rattle.orc_schedules.specs.Counts.{made_at}
use Rattle.orc_schedules.specs.declared.listed.Listed.{Listed}
use Rattle.orc_schedules.specs.declared.states.Key.{Key}

-- the successors that are kept at a place
abbrev pub next_of : Option Listed → List Successor
next_of None = []
next_of (Some l) = l.next.items

-- those at this place
abbrev pub next_at : List Listed → ℕ → List Successor
next_at ls i = next_of (slice_get ls i)

-- these are all that a term may do after the calls of a list
abbrev pub AreNext : List SmallDefinition → List Site → List Small → List (List Made) → ℕ → Small → List Successor → Type 0
AreNext defs sites terms counts made f next = AllZip (IsSuccessor terms) next (moves defs (next_call (coming_of_made sites (made_at counts made))) 0 f)

-- what is kept is right
pub record IsListed (defs : List SmallDefinition) (sites : List Site) (terms : List Small) (counts : List (List Made)) (l : Listed) : Type 0 where
  pub term : l.term < length terms
  pub made : l.made < length counts
  pub all : AreNext defs sites terms counts l.made (small_at terms l.term) l.next.items

-- and so is each that is kept
abbrev pub AreListed : List SmallDefinition → List Site → List Small → List (List Made) → List Listed → Type 0
AreListed defs sites terms counts ls = (i : ℕ) (l : Listed) → slice_get ls i ≡ Some l → IsListed defs sites terms counts l

-- what is kept at that place is that of this state's term and calls
abbrev pub IsOf : List Listed → Key → ℕ → Type 0
IsOf ls from i = (l : Listed) × (slice_get ls i ≡ Some l) × (l.term ≡ from.term) × (l.made ≡ from.made)
