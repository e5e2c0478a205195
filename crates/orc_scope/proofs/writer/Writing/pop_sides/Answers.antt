use Rattle.std.proofs.Common.{rules, ◌≡◌, ◌++◌, ◌∷◌, [], List, sym, ap, ◌∙◌}
use Rattle.orc_scope.specs.declared.nodes.Piece.{Piece}
use Rattle.orc_scope.specs.Listed.{terms}
use Rattle.orc_scope.proofs.Pieces.{fine_last, fine_rest, fine_keep, sides_parts, sides_ready}
use Rattle.orc_scope.proofs.writer.Writing.pop_sides.Goals as goal

pub node_of-requires : goal.node_of-requires
node_of-requires c =
    let fs = terms c.args.self.now.nodes in
    fine_last fs c.pop.new.self.items c.pop-2.new.self.items c.in-Some-pop.left c.in-Some-pop.ensures.items (fine_rest fs c.args.self.now.pieces.items c.pop.new.self.items c.in-Some.right c.in-Some.ensures.items c.requires)

pub node_of-requires-2 : goal.node_of-requires-2
node_of-requires-2 c =
    let fs = terms c.args.self.now.nodes in
    fine_keep fs (terms c.node_of.new.self.nodes) c.in-Some.right c.in_ok-left_node.ensures.keeps (fine_last fs c.args.self.now.pieces.items c.pop.new.self.items c.in-Some.right c.in-Some.ensures.items c.requires)

pub returns-clause-some : goal.returns-clause-some
returns-clause-some c =
    let new : c.node_of-2.new.self.pieces.items ≡ c.pop-2.new.self.items = search rules in
    sides_parts (terms c.args.self.now.nodes) (terms c.node_of.new.self.nodes) (terms c.node_of-2.new.self.nodes) c.args.self.now.pieces.items c.pop.new.self.items c.node_of-2.new.self.pieces.items c.in-Some-pop.left c.in-Some.right c.in_ok-left_node.left_node c.in_ok-right_node.right_node
    c.in-Some.ensures.items (c.in-Some-pop.ensures.items ∙ ap (λ (l : List Piece). l ++ c.in-Some-pop.left ∷ []) (sym new)) c.requires c.in_ok-left_node.ensures.keeps c.in_ok-right_node.ensures.keeps c.in_ok-left_node.ensures.term c.in_ok-left_node.ensures.within c.in_ok-right_node.ensures.term

pub returns-clause-ready : goal.returns-clause-ready
returns-clause-ready c =
    let new : c.node_of-2.new.self.pieces.items ≡ c.pop-2.new.self.items = search rules in
    sides_ready (terms c.args.self.now.nodes) (terms c.node_of.new.self.nodes) (terms c.node_of-2.new.self.nodes) c.args.self.now.pieces.items c.pop.new.self.items c.node_of-2.new.self.pieces.items c.in-Some-pop.left c.in-Some.right
    c.in-Some.ensures.items (c.in-Some-pop.ensures.items ∙ ap (λ (l : List Piece). l ++ c.in-Some-pop.left ∷ []) (sym new)) c.requires c.in_ok-left_node.ensures.keeps c.in_ok-right_node.ensures.keeps
