-- Which parts of a marked term have halted, by a flag for each node.
use Rattle.std.specs.Prelude.{◌≡◌, ℕ, length, List, [], ◌∷◌, Bool, true, false, ◌&&◌, slice_index_or, slice_set, ◌⊎◌}
use Rattle.orc_term.specs.declared.arena.Node.{Node}
use Rattle.orc_term.specs.declared.arena.Kind.{Kind}
use Rattle.orc_term.specs.declared.arena.Kind.TheVariants.{Leaf, One, Two}
use Rattle.orc_term.specs.declared.arena.Tip.{Tip}
use Rattle.orc_term.specs.declared.arena.Tip.TheVariants.{Gone, Ended, Token, Bears, Waits}
use Rattle.orc_term.specs.declared.arena.Single.{Single}
use Rattle.orc_term.specs.declared.arena.Single.TheVariants.{Feeds, Entered, Passed}
use Rattle.orc_term.specs.Arena.{Tree, leaf, one, two, place, Frame, on_one, on_left, on_right, plug}
use Rattle.orc_term.specs.Rising.{Stands, nowhere}
use Rattle.orc_rules.specs.Term.{Term}
use Rattle.orc_term.specs.Halting.{halt_flag, AreHalts}

-- a node's flag, true where there is none
abbrev pub flag : List Bool → ℕ → Bool
flag flags i = slice_index_or flags i true

-- whether a node with one part has halted, by its part
abbrev pub one_flag : Single → Bool → Bool
one_flag (Feeds x g e) b = b
one_flag (Entered m g e) b = false
one_flag Passed b = b

-- whether a node with parts has halted, by the flags of its parts
abbrev pub inner_flag : List Bool → Kind → Bool
inner_flag flags (Leaf k) = false
inner_flag flags (One s i) = one_flag s (flag flags i)
inner_flag flags (Two d i j) = flag flags i && flag flags j

-- over the flags of the program's nodes
module _ (halts : List Bool) where
  -- whether a node without parts has halted
  abbrev pub tip_flag : Tip → Bool
  tip_flag Gone = true
  tip_flag Ended = true
  tip_flag (Token s f e) = halt_flag halts f
  tip_flag (Bears s v) = false
  tip_flag (Waits k) = false

  -- each node of the tree has its flag
  abbrev pub Flagged : List Bool → Tree → Type 0
  Flagged flags (leaf i k) = flag flags i ≡ tip_flag k
  Flagged flags (one i k t) = (flag flags i ≡ one_flag k (flag flags (place t))) × Flagged flags t
  Flagged flags (two i d t u) = (flag flags i ≡ (flag flags (place t) && flag flags (place u))) × Flagged flags t × Flagged flags u

  -- each node around a hole has its flag, where the hole has flag b
  abbrev pub FlaggedAround : List Bool → List Frame → Bool → Type 0
  FlaggedAround flags [] b = Unit {0}
  FlaggedAround flags (on_one i k ∷ o) b = (flag flags i ≡ one_flag k b) × FlaggedAround flags o (flag flags i)
  FlaggedAround flags (on_left i d u ∷ o) b = (flag flags i ≡ (b && flag flags (place u))) × Flagged flags u × FlaggedAround flags o (flag flags i)
  FlaggedAround flags (on_right i d u ∷ o) b = (flag flags i ≡ (flag flags (place u) && b)) × Flagged flags u × FlaggedAround flags o (flag flags i)

-- if the part at node i, which hadn't halted, gets the flag b, the new flags are right for the whole tree around it
abbrev pub Settles : List Node → List Bool → ℕ → Bool → List Bool → Type 0
Settles nodes flags i b flags' = (halts : List Bool) (n : ℕ) (k : List Frame) (t : Tree) → Stands nodes n i k t → FlaggedAround halts flags k false → Flagged halts (slice_set flags i b) t → flag flags i ≡ false → Flagged halts flags' (plug k t)

-- the node above a place
abbrev pub parent_at : List Node → ℕ → ℕ
parent_at nodes i = Node.parent (slice_index_or nodes i nowhere)

-- a node's kind, gone where there is no node
abbrev pub kind_at : List Node → ℕ → Kind
kind_at nodes i = Node.kind (slice_index_or nodes i nowhere)

-- p is the node above node i; its flag isn't set yet, and it has halted by the flags of its parts
abbrev pub HaltsNext : List Node → List Bool → ℕ → ℕ → Type 0
HaltsNext nodes flags i p = (p ≡ parent_at nodes i) × (flag flags p ≡ false) × (inner_flag flags (kind_at nodes p) ≡ true)

-- the flag of the node above node i is set already, or that node hasn't halted by the flags of its parts
abbrev pub EndsAt : List Node → List Bool → ℕ → Type 0
EndsAt nodes flags i = (flag flags (parent_at nodes i) ≡ true) ⊎ (inner_flag flags (kind_at nodes (parent_at nodes i)) ≡ false)

-- each node of the tree has its flag, over the program's terms
pub record HasFlags (code : ℕ → Term) (nodes : List Node) (halts flags : List Bool) (tree : Tree) : Type 0 where
  pub are_halts : AreHalts code halts
  pub len : length flags ≡ length nodes
  pub each : Flagged halts flags tree

-- the flags are right again where a part at place i becomes another
abbrev pub Reflags : (ℕ → Term) → List Node → List Bool → List Bool → List Node → List Bool → List Bool → ℕ → Tree → Tree → Type 0
Reflags code nodes halts flags nodes' halts' flags' i t t' = (n m : ℕ) (k : List Frame) → Stands nodes n i k t → Stands nodes' m i k t' → HasFlags code nodes halts flags (plug k t) → HasFlags code nodes' halts' flags' (plug k t')
