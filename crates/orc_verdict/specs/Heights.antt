-- How deep a program's terms nest, by a number for each node.
use Rattle.std.specs.Prelude.{◌≡◌, ◌<◌, ◌≤◌, ◌+◌, ◌^◌, ℕ, suc, max, List, slice_index_or}
use Rattle.orc_rules.specs.declared.program.TermNode.{TermNode}
use Rattle.orc_rules.specs.declared.program.TermNode.TheVariants.{Par, Seq, Prune, Other}
use Rattle.orc_rules.specs.Term.{Term}
use Rattle.orc_rules.specs.Refusal.{depth}

-- the levels of a program's node, 1 where there is no node
abbrev pub height : List ℕ → ℕ → ℕ
height levels i = slice_index_or levels i 1

-- each node's number says how deep its term nests
abbrev pub AreHeights : (ℕ → Term) → List ℕ → Type 0
AreHeights code levels = (i : ℕ) → height levels i ≡ depth (code i)

-- no node's term is deeper
abbrev pub AreAtMost : List ℕ → ℕ → Type 0
AreAtMost levels most = (i : ℕ) → height levels i ≤ most

-- the levels of a node's term, by those of its parts
abbrev pub node_height : List ℕ → TermNode → ℕ
node_height levels (Par f g) = suc (max (height levels f) (height levels g))
node_height levels (Seq f x g) = suc (max (height levels f) (height levels g))
node_height levels (Prune f x g) = suc (max (height levels f) (height levels g))
node_height levels (Other f g) = suc (max (height levels f) (height levels g))
node_height levels _ = 1

-- one level more than this node has is a number of the machine
abbrev pub IsLow : List ℕ → ℕ → Type 0
IsLow levels i = height levels i + 1 < 2 ^ 64

-- one level more than its parts have is a number of the machine
abbrev pub AreLow : List ℕ → TermNode → Type 0
AreLow levels (Par f g) = IsLow levels f × IsLow levels g
AreLow levels (Seq f x g) = IsLow levels f × IsLow levels g
AreLow levels (Prune f x g) = IsLow levels f × IsLow levels g
AreLow levels (Other f g) = IsLow levels f × IsLow levels g
AreLow levels _ = Unit {0}
