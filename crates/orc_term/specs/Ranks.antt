-- How many nodes stand one below the other.
use Rattle.std.specs.Prelude.{◌≡◌, ◌<◌, ◌≤◌, ◌⊎◌, ℕ, suc, max, true, List, [], ◌∷◌, Some, length, slice_get, slice_index_or}
use Rattle.orc_term.specs.declared.arena.Node.{Node}
use Rattle.orc_term.specs.declared.arena.Kind.{Kind}
use Rattle.orc_term.specs.declared.arena.Kind.TheVariants.{Leaf, One, Two}
use Rattle.orc_term.specs.declared.ranks.Ranks.{Ranks}
use Rattle.orc_term.specs.Arena.{Tree, leaf, one, two, place, Holds}

-- a node's rank, 0 where there is no node
abbrev pub rank : List ℕ → ℕ → ℕ
rank ranks i = slice_index_or ranks i 0

-- a kind of node has this part
abbrev pub IsPart : Kind → ℕ → Type 0
IsPart (Leaf k) i = ⊥
IsPart (One s p) i = p ≡ i
IsPart (Two d p q) i = (p ≡ i) ⊎ (q ≡ i)

-- the number is in the list
abbrev pub IsIn : ℕ → List ℕ → Type 0
IsIn j [] = ⊥
IsIn j (i ∷ list) = (j ≡ i) ⊎ IsIn j list

-- no rank is greater than `most`; a node that stands below another, of which it is a part, has a greater rank, unless the other is in the list `late`
pub record AreRankedBut (nodes : List Node) (ranks : List ℕ) (most : ℕ) (late : List ℕ) : Type 0 where
  pub len : length ranks ≡ length nodes
  pub low : (i : ℕ) → rank ranks i ≤ most
  pub each : (j i : ℕ) (y x : Node) → slice_get nodes j ≡ Some y → slice_get nodes i ≡ Some x → x.parent ≡ j → IsPart y.kind i → IsIn j late ⊎ (rank ranks j < rank ranks i)

-- the ranks are right at every node
abbrev pub AreRanked : List Node → List ℕ → ℕ → Type 0
AreRanked nodes ranks most = AreRankedBut nodes ranks most []

-- the ranks are right, where they say that they are kept
abbrev pub AreKept : List Node → Ranks → Type 0
AreKept nodes r = r.are_kept ≡ true → AreRanked nodes r.numbers.items r.most

-- node i, which is to be a part of the new node n, isn't n, and doesn't name n as its parent yet
abbrev pub StandsApart : List Node → ℕ → ℕ → Type 0
StandsApart nodes n i = (i ≡ n → ⊥) × ((x : Node) → slice_get nodes i ≡ Some x → x.parent ≡ n → ⊥)

-- if node i names node j as its parent, it has a greater rank
abbrev pub IsRankedBelow : List Node → List ℕ → ℕ → ℕ → Type 0
IsRankedBelow nodes ranks j i = (x : Node) → slice_get nodes i ≡ Some x → x.parent ≡ j → rank ranks j < rank ranks i

-- how many nodes stand one below another in a tree
abbrev pub levels_below : Tree → ℕ
levels_below (leaf i k) = 0
levels_below (one i k t) = suc (levels_below t)
levels_below (two i k t u) = suc (max (levels_below t) (levels_below u))

-- the nodes' tree has at most n levels below its top
abbrev pub AreLevelsAtMost : List Node → ℕ → Type 0
AreLevelsAtMost nodes n = (m : ℕ) (t : Tree) → Holds nodes m 0 t → place t ≡ 0 → levels_below t ≤ n
