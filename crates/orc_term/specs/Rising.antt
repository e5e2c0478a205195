-- How a publication goes up from a part to what takes it.
use Rattle.std.specs.Prelude.{◌≡◌, ℕ, List, [], ◌∷◌, Option, Some, None, cond, nat_eq, slice_get, slice_index_or, option_map, ◌⊎◌}
use Rattle.orc_rules.specs.declared.value.Value.{Value}
use Rattle.orc_rules.specs.Step.{Act, silent, publishes, binds}
use Rattle.orc_term.specs.declared.arena.Node.{Node}
use Rattle.orc_term.specs.declared.arena.Kind.{Kind}
use Rattle.orc_term.specs.declared.arena.Kind.TheVariants.{Leaf, One, Two}
use Rattle.orc_term.specs.declared.arena.Tip.TheVariants.{Gone}
use Rattle.orc_term.specs.declared.arena.Single.TheVariants.{Feeds, Entered, Passed}
use Rattle.orc_term.specs.declared.arena.Double.TheVariants.{Both, Side}
use Rattle.orc_term.specs.declared.walk.Taker.{Taker}
use Rattle.orc_term.specs.declared.walk.Taker.TheVariants.{Whole, Fed, Bound}
use Rattle.orc_term.specs.Arena.{Tree, one, two, place, Holds, StandOnce, Frame, on_one, on_left, on_right, plug}

-- what takes a publication of the part in the hole
abbrev pub takes : List Frame → Taker
takes [] = Whole
takes (on_one i (Feeds x g e) ∷ k) = Fed i
takes (on_one i (Entered n g e) ∷ k) = takes k
takes (on_one i Passed ∷ k) = takes k
takes (on_left i d t ∷ k) = takes k
takes (on_right i Both t ∷ k) = takes k
takes (on_right i (Side c) t ∷ k) = Bound c i

-- the effect of a publication of this value that this taker takes
abbrev pub act_of : Taker → Value → Act
act_of Whole v = publishes v
act_of (Fed i) v = silent
act_of (Bound c i) v = binds c v

-- the frames that a publication doesn't pass: the one that takes it, and all above it
abbrev pub rest : List Frame → List Frame
rest [] = []
rest (on_one i (Feeds x g e) ∷ k) = on_one i (Feeds x g e) ∷ k
rest (on_one i (Entered n g e) ∷ k) = rest k
rest (on_one i Passed ∷ k) = rest k
rest (on_left i d t ∷ k) = rest k
rest (on_right i Both t ∷ k) = rest k
rest (on_right i (Side c) t ∷ k) = on_right i (Side c) t ∷ k

-- the part directly below what takes the publication, as it is before the publication
abbrev pub under : List Frame → Tree → Tree
under [] t = t
under (on_one i (Feeds x g e) ∷ k) t = t
under (on_one i (Entered n g e) ∷ k) t = under k (one i (Entered n g e) t)
under (on_one i Passed ∷ k) t = under k (one i Passed t)
under (on_left i d u ∷ k) t = under k (two i d t u)
under (on_right i Both u ∷ k) t = under k (two i Both u t)
under (on_right i (Side c) u ∷ k) t = t

-- that part as it is after the publication: each otherwise on the way has lost its right side
abbrev pub risen : List Frame → Tree → Tree
risen [] t = t
risen (on_one i (Feeds x g e) ∷ k) t = t
risen (on_one i (Entered n g e) ∷ k) t = risen k (one i Passed t)
risen (on_one i Passed ∷ k) t = risen k (one i Passed t)
risen (on_left i d u ∷ k) t = risen k (two i d t u)
risen (on_right i Both u ∷ k) t = risen k (two i Both u t)
risen (on_right i (Side c) u ∷ k) t = t

-- what a node is once a publication has gone through it: an otherwise loses its right side
abbrev pub pass_kind : Kind → Kind
pass_kind (One (Entered n g e) i) = One Passed i
pass_kind k = k

-- the same, below the same node
abbrev pub pass_node : Node → Node
pass_node x = record { kind = pass_kind (Node.kind x); parent = Node.parent x }

-- what is read where there is no node
abbrev pub nowhere : Node
nowhere = record { kind = Leaf Gone; parent = 0 }

-- node j, of this kind, as the taker of what node i below it publishes; none if it lets the publication through
abbrev pub up : Kind → ℕ → ℕ → Option Taker
up (One (Feeds x g e) p) i j = Some (Fed j)
up (Two (Side c) l r) i j = cond (nat_eq l i) None (Some (Bound c j))
up _ i j = None

-- the numbered nodes are those of a tree whose part at node i is t, with the frames k around it
pub record Stands (nodes : List Node) (n i : ℕ) (k : List Frame) (t : Tree) : Type 0 where
  pub holds : Holds nodes n 0 (plug k t)
  pub once : StandOnce nodes (plug k t)
  pub there : place t ≡ i
  pub root : place (plug k t) ≡ 0

-- this taker takes what is published at the place
abbrev pub IsTaker : List Node → ℕ → Taker → Type 0
IsTaker nodes i taker = (n : ℕ) (k : List Frame) (t : Tree) → Stands nodes n i k t → taker ≡ takes k

-- what takes a publication is the node of the pruning whose cell is bound, or that of the `>x>`
abbrev pub TakesThere : List Node → Taker → Type 0
TakesThere nodes (Bound c i) = (left right : ℕ) × (Node.kind (slice_index_or nodes i nowhere) ≡ Two (Side c) left right)
TakesThere nodes (Fed i) = (x g e part : ℕ) × (Node.kind (slice_index_or nodes i nowhere) ≡ One (Feeds x g e) part)
TakesThere nodes Whole = Unit {0}

-- the nodes after a publication of node i: they are those of the tree in which each otherwise that it passed has lost its right side
abbrev pub Rises : List Node → ℕ → List Node → Type 0
Rises nodes i nodes' = (n : ℕ) (k : List Frame) (t : Tree) → Stands nodes n i k t → Holds nodes' n 0 (plug (rest k) (risen k t)) × StandOnce nodes' (plug (rest k) (risen k t))

-- each node stays as it is, or is what a publication makes of it when it passes
abbrev pub Passes : List Node → List Node → Type 0
Passes nodes nodes' = (u : ℕ) → (slice_get nodes' u ≡ slice_get nodes u) ⊎ (slice_get nodes' u ≡ option_map pass_node (slice_get nodes u))
