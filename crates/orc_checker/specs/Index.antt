-- The tables that say at which node each mark, call and cell is.
use Rattle.std.specs.Prelude.{◌≡◌, ◌⊎◌, ℕ, zero, suc, List, Bool, false, Option, Some, None, cond, nat_eq, slice_get, option_map}
use Rattle.orc_rules.specs.Numbered.{Name, mark, call, cell}
use Rattle.orc_env.specs.declared.names.Bound.{Bound}
use Rattle.orc_env.specs.declared.names.Bound.TheVariants.{Cell}
use Rattle.orc_term.specs.declared.arena.Node.{Node}
use Rattle.orc_term.specs.declared.arena.Kind.{Kind}
use Rattle.orc_term.specs.declared.arena.Kind.TheVariants.{Leaf, One, Two}
use Rattle.orc_term.specs.declared.arena.Tip.{Tip}
use Rattle.orc_term.specs.declared.arena.Tip.TheVariants.{Token, Bears, Waits}
use Rattle.orc_term.specs.declared.arena.Single.TheVariants.{Entered}
use Rattle.orc_term.specs.declared.arena.Double.TheVariants.{Side}
use Rattle.orc_checker.specs.declared.rest.Called.{Called}
use Rattle.orc_term.specs.Settling.{kind_at}

-- the name of a node, by which entries call it
abbrev pub name_of : Kind → Option Name
name_of (Leaf (Token s f e)) = Some (mark s)
name_of (Leaf (Bears s v)) = Some (mark s)
name_of (Leaf (Waits k)) = Some (call k)
name_of (One (Entered s g e) i) = Some (mark s)
name_of (Two (Side c) i j) = Some (cell c)
name_of _ = None

-- the node on which a call was put; calls count from 1
abbrev pub call_place : List Called → ℕ → Option ℕ
call_place calls zero = None
call_place calls (suc k) = option_map Called.node (slice_get calls k)

-- the tables: the nodes on which marks and prunings were put, the calls, and what became of the cells
pub record Tables : Type 0 where
  pub marks : List ℕ
  pub prunings : List ℕ
  pub calls : List Called
  pub cells : List Bound

-- the tables say that node i has the name; if the name is a cell, the cell is neither bound nor lost
abbrev pub IsPut : Tables → Name → ℕ → Type 0
IsPut t (mark s) i = slice_get t.marks s ≡ Some i
IsPut t (call k) i = call_place t.calls k ≡ Some i
IsPut t (cell c) i = (slice_get t.prunings c ≡ Some i) × (slice_get t.cells c ≡ Some (Cell c))

-- each node with a name is where the tables say
pub record AreIndexed (nodes : List Node) (t : Tables) : Type 0 where
  pub put : (i : ℕ) (n : Name) → name_of (kind_at nodes i) ≡ Some n → IsPut t n i

-- a node has a name afterwards only if it had it before, or if New holds of the name and the node
pub record Renames (New : Name → ℕ → Type 0) (nodes nodes' : List Node) : Type 0 where
  pub before : (i : ℕ) (n : Name) → name_of (kind_at nodes' i) ≡ Some n → (name_of (kind_at nodes i) ≡ Some n) ⊎ New n i

-- the node that a place in a table gives, with its place
abbrev pub node_by : List Node → Option ℕ → Option (ℕ × Node)
node_by nodes (Some i) = option_map (λ n. (i, n)) (slice_get nodes i)
node_by nodes None = None

-- what token s stands on, where the node has it
abbrev pub tip_with : Kind → ℕ → Option Tip
tip_with (Leaf (Token m f e)) s = cond (nat_eq m s) (Some (Token m f e)) None
tip_with (Leaf (Bears m v)) s = cond (nat_eq m s) (Some (Bears m v)) None
tip_with _ s = None

-- whether the node waits for call k
abbrev pub waits_with : Kind → ℕ → Bool
waits_with (Leaf (Waits j)) k = nat_eq j k
waits_with _ k = false

-- the sides of the pruning of cell c, where the node is it
abbrev pub pruning_with : Kind → ℕ → Option (ℕ × ℕ)
pruning_with (Two (Side d) left right) c = cond (nat_eq d c) (Some (left, right)) None
pruning_with _ c = None

-- the left side of otherwise s, and its right one with its scope, where the node is it
abbrev pub otherwise_with : Kind → ℕ → Option (ℕ × ℕ × ℕ)
otherwise_with (One (Entered m g e) left) s = cond (nat_eq m s) (Some (left, g, e)) None
otherwise_with _ s = None
