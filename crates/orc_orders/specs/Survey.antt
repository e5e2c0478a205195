-- What came up in many orders: each outcome once, with the number of orders that came to it.
use Rattle.std.specs.Prelude.{◌≡◌, ◌≢◌, ◌+◌, ◌<◌, ℕ, List, [], ◌∷◌, ◌++◌, Some, length, nat_eq, slice_get, slice_index_or, slice_set}
use Rattle.std.specs.List.{All, AllPairs, count_by, position}
use Rattle.std.specs.declared.option.Option.{Option}
use Rattle.orc_rules.specs.Sites.{Table}
use Rattle.orc_rules.specs.Nodes.{Listing}
use Rattle.orc_rules.specs.declared.value.Value.{Value}
use Rattle.orc_journal.specs.Written.{Written}
use Rattle.orc_outcome.specs.Outcome.{IsPlayed}
use Rattle.orc_outcome.specs.declared.end.End.{End}
use Rattle.orc_outcome.specs.declared.end.End.TheVariants as ends
use Rattle.orc_outcome.specs.declared.end.Summary.{Summary}
use Rattle.orc_orders.specs.declared.seen.Seen.{Seen}

-- what a run came to: how it ended, and what it published
pub record Came : Type 0 where
  pub end : End
  pub values : List Value

-- a run of the program with these sites, within the limit, came to it, and wasn't refused memory
abbrev pub IsOfRun : Listing → Table → ℕ → Came → Type 0
IsOfRun l t limit c = (s : Summary) × (journal : Option Written) × IsPlayed l t limit s c.values journal × (s.end ≡ c.end) × (c.end ≢ ends.Memory)

-- the outcome that was seen is this one
abbrev pub IsOf : Came → Seen → Type 0
IsOf c x = (x.end ≡ c.end) × (x.values.items ≡ c.values)

-- counts one more order, which came to an outcome that was seen before (`again`), or is seen for the first time (`first`)
pub data Counts (order : ℕ) (c : Came) : List Seen → List Seen → Type 0 where
  again : (xs : List Seen) (at : ℕ) (x : Seen) → slice_get xs at ≡ Some x → IsOf c x → Counts order c xs (slice_set xs at (record x { times = x.times + 1 }))
  first : (xs : List Seen) (x : Seen) → All (λ y. IsOf c y → ⊥) xs → IsOf c x → x.first ≡ order → x.times ≡ 1 → Counts order c xs (xs ++ x ∷ [])

-- they end in different ways, or publish different values
abbrev pub Differ : Seen → Seen → Type 0
Differ x y = x.end ≡ y.end → x.values.items ≡ y.values.items → ⊥

-- one came up before the other
abbrev pub IsBefore : Seen → Seen → Type 0
IsBefore x y = x.first < y.first

-- a run of the program came to the outcome at this place
abbrev pub IsReached : Listing → Table → ℕ → List Seen → ℕ → Type 0
IsReached l t limit seen at = (at < length seen) × ((d : Seen) → (c : Came) × IsOfRun l t limit c × IsOf c (slice_index_or seen at d))

-- these are the outcomes of the program's runs in the orders from 0 up to `orders`: each outcome once, sorted by the first order that came to it
pub record IsSurvey (l : Listing) (t : Table) (limit orders : ℕ) (seen : List Seen) : Type 0 where
  -- for each order the place of the outcome that its run came to
  pub places : List ℕ
  pub each : length places ≡ orders
  pub reached : All (IsReached l t limit seen) places
  pub times : (at : ℕ) (d : Seen) → at < length seen → (slice_index_or seen at d).times ≡ count_by (nat_eq at) places
  pub first : (at : ℕ) (d : Seen) → at < length seen → position (nat_eq at) places ≡ Some (slice_index_or seen at d).first
  pub apart : AllPairs Differ seen
  pub ordered : AllPairs IsBefore seen
