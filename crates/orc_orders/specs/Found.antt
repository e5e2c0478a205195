-- Outcomes that are found by a hash.
use Rattle.std.specs.Prelude.{◌≡◌, ◌+◌, ℕ, List, Some, map, slice_get, slice_set}
use Rattle.orc_orders.specs.Survey.{Came}
use Rattle.orc_orders.specs.declared.seen.Seen.{Seen}
use Rattle.orc_orders.specs.declared.seen.Outcome.{Outcome}

-- what a run came to, of an outcome by which the hash set finds it, and of one in the list
abbrev pub came_of : Outcome → Came
came_of o = record { end = o.end; values = o.values.items }

abbrev pub came_to : Seen → Came
came_to x = record { end = x.end; values = x.values.items }

-- the hash set has the outcomes of the list, each at its place there
abbrev pub AreKnown : List Outcome → List Seen → Type 0
AreKnown os xs = map came_of os ≡ map came_to xs

-- the list xs with one more order counted for the outcome at this place
pub record IsOnceMore (at : ℕ) (xs ys : List Seen) : Type 0 where
  pub outcome : Seen
  pub there : slice_get xs at ≡ Some outcome
  pub more : ys ≡ slice_set xs at (record outcome { times = outcome.times + 1 })
