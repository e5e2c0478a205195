-- How a walk through a numbered term finds all that it may do.
use Rattle.std.specs.Prelude.{◌≡◌, ◌<◌, ℕ, suc, List, [], ◌∷◌, ◌++◌, map, reverse, Option, Some, None}
use Rattle.orc_rules.specs.declared.value.Value.{Value}
use Rattle.orc_search.specs.declared.node.Joint.TheVariants as joint
use Rattle.orc_search.specs.declared.node.Node.{Node}
use Rattle.orc_search.specs.declared.node.Node.TheVariants.{Pair, Tip}
use Rattle.orc_search.specs.declared.successor.Frame.{Frame}
use Rattle.orc_search.specs.declared.successor.Frame.TheVariants.{Left, Right, Feeds, Main, Side, First}
use Rattle.orc_search.specs.declared.walk.Spot.{Spot}
use Rattle.orc_search.specs.declared.walk.Task.{Task}
use Rattle.orc_search.specs.declared.walk.Task.TheVariants.{Enter, Leave}
use Rattle.orc_search.specs.declared.walk.Walk.{Walk}
use Rattle.orc_search.specs.Small.{Out, Small, both, feeds, instead, needs}
use Rattle.orc_search.specs.Moves.{SmallDefinition}
use Rattle.orc_search.specs.Successors.{Successor, in_left, in_right, in_feeds, in_main, in_side, in_first, moves}
use Rattle.orc_search.specs.Nodes.{small_at, small_of_node, HasParts}
use Rattle.orc_search.specs.Moving.{in_frame, IsAround}

-- what a term does by its parts
abbrev pub by_parts : List SmallDefinition → (ℕ → List Value → Out) → ℕ → Small → List Successor
by_parts defs ask n (both f g) = map (in_left g) (moves defs ask n f) ++ map (in_right f) (moves defs ask n g)
by_parts defs ask n (feeds f x g) = map (in_feeds x g) (moves defs ask n f)
by_parts defs ask n (instead f g) = map (in_first g) (moves defs ask n f)
by_parts defs ask n (needs f g) = map (in_main g) (moves defs ask (suc n) f) ++ map (in_side n f) (moves defs ask n g)
by_parts defs ask n _ = []

-- what the whole does by a move of a part, through all that stands around it, the innermost first
abbrev pub through : List Small → List Frame → Successor → Successor
through terms [] m = m
through terms (f ∷ outer) m = through terms outer (in_frame terms f m)

-- the frames but the innermost
abbrev pub outer : List Frame → List Frame
outer [] = []
outer (f ∷ path) = path

-- what the whole does by all moves of one part
abbrev pub of_spot : List SmallDefinition → (ℕ → List Value → Out) → List Small → List Frame → Spot → List Successor
of_spot defs ask terms path s = map (through terms path) (moves defs ask s.depth (small_at terms s.at))

-- and of all parts that are still to be entered, the next one first
abbrev pub of_tasks : List SmallDefinition → (ℕ → List Value → Out) → List Small → List Frame → List Task → List Successor
of_tasks defs ask terms path [] = []
of_tasks defs ask terms path (Enter f s ∷ tasks) = of_spot defs ask terms (f ∷ path) s ++ of_tasks defs ask terms path tasks
of_tasks defs ask terms path (Leave ∷ tasks) = of_tasks defs ask terms (outer path) tasks

-- all that a walk is still to find
abbrev pub still : List SmallDefinition → (ℕ → List Value → Out) → List Small → Walk → List Successor
still defs ask terms w = of_tasks defs ask terms (reverse w.path.items) (reverse w.todo.items)

-- how the parts of a node are entered, the first one first
abbrev pub tasks_of : ℕ → Node → List Task
tasks_of n (Tip t) = []
tasks_of n (Pair joint.Both f g) = Enter (Left g) (record { at = f; depth = n }) ∷ Enter (Right f) (record { at = g; depth = n }) ∷ []
tasks_of n (Pair (joint.Feeds x) f g) = Enter (Feeds x g) (record { at = f; depth = n }) ∷ []
tasks_of n (Pair (joint.Prunes x) f g) = []
tasks_of n (Pair joint.Instead f g) = Enter (First g) (record { at = f; depth = n }) ∷ []
tasks_of n (Pair joint.Needs f g) = Enter (Main g) (record { at = f; depth = suc n }) ∷ Enter (Side n f) (record { at = g; depth = n }) ∷ []

-- among so many terms are all other parts of what stands around
abbrev pub AreAround : ℕ → List Frame → Type 0
AreAround n [] = Unit {0}
AreAround n (f ∷ path) = IsAround n f × AreAround n path

-- and all parts that are to be entered
abbrev pub AreThere : ℕ → List Task → Type 0
AreThere n [] = Unit {0}
AreThere n (Enter f s ∷ tasks) = IsAround n f × (s.at < n) × AreThere n tasks
AreThere n (Leave ∷ tasks) = AreThere n tasks

-- all that a walk names is among so many terms
abbrev pub IsWithin : ℕ → Walk → Type 0
IsWithin n w = AreAround n (reverse w.path.items) × AreThere n (reverse w.todo.items)

-- the walk goes on with a part, or has found all
abbrev pub GoesOn : Walk → Option Spot → Walk → Type 0
GoesOn w None w' = (defs : List SmallDefinition) (ask : ℕ → List Value → Out) (terms : List Small) → still defs ask terms w ≡ []
GoesOn w (Some s) w' = ((defs : List SmallDefinition) (ask : ℕ → List Value → Out) (terms : List Small) → still defs ask terms w ≡ of_spot defs ask terms (reverse w'.path.items) s ++ still defs ask terms w')
    × ((n : ℕ) → IsWithin n w → IsWithin n w' × (s.at < n))

-- the parts of the node of this part are to be entered next
pub record IsPlanned (terms : List Small) (s : Spot) (w w' : Walk) : Type 0 where
  pub node : Node
  pub term : small_at terms s.at ≡ small_of_node terms node
  pub parts : HasParts s.at node
  pub todo : reverse w'.todo.items ≡ tasks_of s.depth node ++ reverse w.todo.items
  pub path : w'.path.items ≡ w.path.items
