-- The terms of nodes with their lists of operands.
use Rattle.std.specs.Prelude.{◌<◌, ℕ, List, [], ◌∷◌, slice_index_or}
use Rattle.orc_rules.specs.declared.program.TermNode.{TermNode}
use Rattle.orc_rules.specs.declared.program.TermNode.TheVariants as nodes
use Rattle.orc_rules.specs.Nodes.{Terms, terms_from, unfold_node}
use Rattle.orc_rules.specs.Term.{Term, stop}

-- the term of node i
abbrev pub term_at : List Term → ℕ → Term
term_at fs i = slice_index_or fs i stop

-- the terms of nodes, in their order
abbrev pub terms : Terms → List Term
terms l = terms_from l.lists [] l.nodes

-- the term of a node behind these
abbrev pub term_of : Terms → TermNode → Term
term_of l n = unfold_node (λ i. slice_index_or (terms l) i stop) l.lists n

-- a node's list of operands is there
abbrev pub HasList : ℕ → TermNode → Type 0
HasList n (nodes.Site m l) = l < n
HasList n (nodes.Call e l) = l < n
HasList n _ = Unit {0}

abbrev pub HaveLists : ℕ → List TermNode → Type 0
HaveLists n [] = Unit {0}
HaveLists n (m ∷ ms) = HasList n m × HaveLists n ms
