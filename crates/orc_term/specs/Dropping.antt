-- The nodes of a part, and what a drop leaves of the nodes.
use Rattle.std.specs.Prelude.{◌≡◌, ◌≤◌, ◌+◌, ℕ, List, [], ◌∷◌, ◌++◌, Option, Some, None, slice_get}
use Rattle.orc_term.specs.declared.arena.Node.{Node}
use Rattle.orc_term.specs.declared.arena.Kind.{Kind}
use Rattle.orc_term.specs.declared.arena.Kind.TheVariants.{Leaf, One, Two}
use Rattle.orc_term.specs.declared.arena.Tip.TheVariants.{Waits}
use Rattle.orc_term.specs.Arena.{Tree, leaf, one, two, place, hits, Holds, living}

-- a number for each element, added up
abbrev pub weight : (ℕ → ℕ) → List ℕ → ℕ
weight w [] = 0
weight w (i ∷ is) = w i + weight w is

-- how often a number stands in a list
abbrev pub occurs : ℕ → List ℕ → ℕ
occurs u is = weight (hits u) is

-- a number for each place of a tree, added up
abbrev pub weigh : (ℕ → ℕ) → Tree → ℕ
weigh w (leaf i k) = w i
weigh w (one i k t) = w i + weigh w t
weigh w (two i k t v) = w i + (weigh w t + weigh w v)

-- the parts of a node
abbrev pub parts_of : Kind → List ℕ
parts_of (Leaf k) = []
parts_of (One s i) = i ∷ []
parts_of (Two d i j) = i ∷ j ∷ []

-- the list has exactly the nodes of the part whose top node is `root`, each as often as the part has it
abbrev pub AreNodesOf : List Node → ℕ → List ℕ → Type 0
AreNodesOf nodes root found = (n p : ℕ) (t : Tree) → Holds nodes n p t → place t ≡ root → (w : ℕ → ℕ) → weight w found ≡ weigh w t

-- the nodes of the list are gone, and all others stay
abbrev pub IsDropped : List Node → List ℕ → List Node → Type 0
IsDropped nodes found nodes' = (u : ℕ) → (occurs u found ≡ 0 → slice_get nodes' u ≡ slice_get nodes u) × (1 ≤ occurs u found → living (slice_get nodes' u) ≡ 0)

-- the call that pends at a node, if any
abbrev pub call_of : Kind → List ℕ
call_of (Leaf (Waits k)) = k ∷ []
call_of _ = []

-- the same of a node that may not be there
abbrev pub call_at : Option Node → List ℕ
call_at (Some n) = call_of (Node.kind n)
call_at None = []

-- the calls that pend at nodes, in their order
abbrev pub calls_at : List Node → List ℕ → List ℕ
calls_at nodes [] = []
calls_at nodes (i ∷ is) = call_at (slice_get nodes i) ++ calls_at nodes is

-- no element is less than the one before it
abbrev pub DoRise : List ℕ → Type 0
DoRise [] = Unit {0}
DoRise (k ∷ []) = Unit {0}
DoRise (k ∷ j ∷ ks) = (k ≤ j) × DoRise (j ∷ ks)

-- the same numbers in rising order
abbrev pub AreRising : List ℕ → List ℕ → Type 0
AreRising ks js = DoRise js × ((k : ℕ) → occurs k js ≡ occurs k ks)
