use Rattle.std.proofs.Common.{◌≡◌, ℕ, ap, sym, ◌∙◌}
use Rattle.orc_rules.specs.declared.program.TermNode.{TermNode}
use Rattle.orc_rules.specs.Nodes.{Listing, ArePartsFirst, node_of, unfold_node, code}
use Rattle.orc_rules.proofs.Unfolding.{unfolds}
use Rattle.orc_graph.proofs.graph.Graph.node.Goals as goal

-- a node's term, where its parts stand before it
shown : (l : Listing) (id : ℕ) (n : TermNode) → ArePartsFirst l.nodes → n ≡ node_of l.nodes id → code l id ≡ unfold_node (code l) l.lists n
shown l id n first is = unfolds l.lists l.nodes id first ∙ ap (unfold_node (code l) l.lists) (sym is)

pub returns-clause-term : goal.returns-clause-term
returns-clause-term c = shown c.args.self.now c.args.id _ c.are_parts_first.ensures c.node_or_stop.ensures
