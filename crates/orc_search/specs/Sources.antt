-- The small terms of a program's nodes.
use Rattle.std.specs.Prelude.{◌≡◌, ℕ, List, length, Some, slice_get}
use Rattle.orc_rules.specs.declared.program.TermNode.{TermNode}
use Rattle.orc_rules.specs.Nodes.{Listing, code, unfold_node}
use Rattle.orc_search.specs.declared.node.Joint.{Joint}
use Rattle.orc_search.specs.declared.node.Node.{Node}
use Rattle.orc_search.specs.declared.node.Node.TheVariants.{Pair}
use Rattle.orc_search.specs.Small.{Small}
use Rattle.orc_search.specs.Nodes.{small_of_node, HasParts}
use Rattle.orc_search.specs.Programs.{small}

-- the numbers of the first nodes' small terms, in their order
abbrev pub AreNumbered : List Small → Listing → List ℕ → Type 0
AreNumbered terms l numbers = (i n : ℕ) → slice_get numbers i ≡ Some n → slice_get terms n ≡ Some (small (code l i))

-- the node that joins the terms of two of the program's nodes
abbrev pub IsPairOf : List ℕ → Joint → ℕ → ℕ → Node → Type 0
IsPairOf numbers j f g n = (p : ℕ) × (q : ℕ) × (slice_get numbers f ≡ Some p) × (slice_get numbers g ≡ Some q) × (n ≡ Pair j p q)

-- wherever the parts have these numbers, the node's parts are there, and its term is that of the program's node
abbrev pub IsNodeOf : Listing → List ℕ → TermNode → Node → Type 0
IsNodeOf l numbers t n = (terms : List Small) → AreNumbered terms l numbers → HasParts (length terms) n × (small_of_node terms n ≡ small (unfold_node (code l) l.lists t))
