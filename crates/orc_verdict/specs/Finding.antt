-- The nodes that have a name.
use Rattle.std.specs.Prelude.{◌≡◌, ℕ, List, Bool, true, false, Option, Some, None, slice_get}
use Rattle.orc_rules.specs.Numbered.{Name as RuleName, mark, call, cell}
use Rattle.orc_term.specs.declared.arena.Node.{Node}
use Rattle.orc_term.specs.declared.arena.Kind.{Kind}
use Rattle.orc_term.specs.declared.arena.Kind.TheVariants.{Leaf, One, Two}
use Rattle.orc_term.specs.declared.arena.Tip.TheVariants.{Token, Bears, Waits}
use Rattle.orc_term.specs.declared.arena.Single.TheVariants.{Entered}
use Rattle.orc_term.specs.declared.arena.Double.TheVariants.{Side}
use Rattle.orc_term.specs.Arena.{at}
use Rattle.orc_verdict.specs.declared.finder.Name.{Name}
use Rattle.orc_verdict.specs.declared.finder.Name.TheVariants.{Mark, Call, Cell}
use Rattle.orc_verdict.specs.declared.finder.Part.{Part}

-- the name that a node shows
abbrev pub name_at : Kind → Option Name
name_at (Leaf (Token s f e)) = Some (Mark s)
name_at (Leaf (Bears s v)) = Some (Mark s)
name_at (Leaf (Waits k)) = Some (Call k)
name_at (One (Entered s g e) i) = Some (Mark s)
name_at (Two (Side c) i j) = Some (Cell c)
name_at _ = None

-- whether a node has no parts
abbrev pub is_leaf : Kind → Bool
is_leaf (Leaf k) = true
is_leaf _ = false

-- whether a node has one part
abbrev pub is_one : Kind → Bool
is_one (One s i) = true
is_one _ = false

-- the same name in the rules' words
abbrev pub named : Name → RuleName
named (Mark s) = mark s
named (Call k) = call k
named (Cell c) = cell c

-- the part is a node of that name
abbrev pub Has : List Node → Name → Part → Type 0
Has nodes name f = ((q : ℕ) × at nodes q f.at f.kind) × (name_at f.kind ≡ Some name)

-- this node doesn't have the name
abbrev pub LacksAt : List Node → Name → ℕ → Type 0
LacksAt nodes name i = (n : Node) → slice_get nodes i ≡ Some n → name_at n.kind ≡ Some name → ⊥

-- no node has the name
abbrev pub HasNone : List Node → Name → Type 0
HasNone nodes name = (i : ℕ) → LacksAt nodes name i
