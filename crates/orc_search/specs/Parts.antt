-- The parts of a term that can move, each with what stands around it.
use Rattle.std.specs.Prelude.{◌≡◌, ◌<◌, ℕ, List, [], ◌∷◌, length, Bool, true, false, Option, Some, None, slice_get}
use Rattle.orc_rules.specs.declared.value.Value.{Value}
use Rattle.orc_rules.specs.Timed.{IsIn}
use Rattle.orc_search.specs.declared.early.Inside.{Inside}
use Rattle.orc_search.specs.declared.early.Part.{Part}
use Rattle.orc_search.specs.declared.node.Node.{Node}
use Rattle.orc_search.specs.declared.successor.Frame.{Frame}
use Rattle.orc_search.specs.declared.successor.Frame.TheVariants.{Feeds, Side}
use Rattle.orc_search.specs.declared.successor.Successor.{Successor as Numbered}
use Rattle.orc_search.specs.declared.walk.Spot.{Spot}
use Rattle.orc_search.specs.declared.walk.Task.{Task}
use Rattle.orc_search.specs.declared.walk.Task.TheVariants.{Enter, Leave}
use Rattle.orc_search.specs.Small.{Out, Small}
use Rattle.orc_search.specs.Moves.{Happening, published, SmallDefinition}
use Rattle.orc_search.specs.Nodes.{small_at, small_of_node, HasParts}
use Rattle.orc_search.specs.Moving.{happening_of}
use Rattle.orc_search.specs.Walks.{tasks_of}
use Rattle.orc_search.specs.Early.{Early}

-- the term itself
abbrev pub whole_term : ℕ → Part
whole_term root = record { spot = record { at = root; depth = 0 }; inside = None }

-- the parts of a node whose own place is `outer`
abbrev pub parts_of : ℕ → List Task → List Part
parts_of outer [] = []
parts_of outer (Enter f s ∷ tasks) = record { spot = s; inside = Some (record { frame = f; outer = outer }) } ∷ parts_of outer tasks
parts_of outer (Leave ∷ tasks) = parts_of outer tasks

-- a part stands so in another one
pub record Fits (terms : List Small) (f : Frame) (s p : Spot) : Type 0 where
  pub node : Node
  pub term : small_at terms s.at ≡ small_of_node terms node
  pub parts : HasParts s.at node
  pub is : IsIn (Enter f p) (tasks_of s.depth node)

-- it is the term itself, or a part of one in the list
abbrev pub IsInside : List Small → ℕ → List Part → Spot → Option Inside → Type 0
IsInside terms root parts s None = s ≡ record { at = root; depth = 0 }
IsInside terms root parts s (Some x) = (q : Part) × (slice_get parts x.outer ≡ Some q) × Fits terms x.frame q.spot s

-- a part of the term with that number, whose own number is that of a term
abbrev pub IsPart : List Small → ℕ → List Part → Part → Type 0
IsPart terms root parts p = (p.spot.at < length terms) × IsInside terms root parts p.spot p.inside

-- these are parts of the term with that number
abbrev pub AreParts : List Small → ℕ → List Part → Type 0
AreParts terms root parts = (i : ℕ) (p : Part) → slice_get parts i ≡ Some p → IsPart terms root parts p

-- an early step leads from the first term to the second, where a call or an answer counts as hidden only if it is the happening h
abbrev pub EarlyBy : List SmallDefinition → (ℕ → List Value → Out) → ℕ → Happening → Small → Small → Type 0
EarlyBy defs ask n h f g = Early defs ask (λ k. k ≡ h) n f g

-- the term of this number has such a step, after which it has that number
abbrev pub IsEarly : List SmallDefinition → (ℕ → List Value → Out) → List Small → ℕ → Numbered → Type 0
IsEarly defs ask terms at s = (s.to < length terms) × EarlyBy defs ask 0 (happening_of s.happening) (small_at terms at) (small_at terms s.to)

-- where the step m of a part is early, the step s of another one around it is
pub record Lifts (old new : List Small) (p around : Spot) (m s : Numbered) : Type 0 where
  pub there : s.to < length new
  pub shows : happening_of s.happening ≡ happening_of m.happening
  pub early : (defs : List SmallDefinition) (ask : ℕ → List Value → Out) → EarlyBy defs ask p.depth (happening_of m.happening) (small_at old p.at) (small_at old m.to) → EarlyBy defs ask around.depth (happening_of m.happening) (small_at old around.at) (small_at new s.to)

-- all but a publication
abbrev pub is_passed : Happening → Bool
is_passed (published v) = false
is_passed _ = true

-- `>x>` and a cell take a value that is published in them
abbrev pub takes_values : Frame → Bool
takes_values (Feeds x g) = true
takes_values (Side n f) = true
takes_values _ = false
