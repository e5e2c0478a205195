use Rattle.orc_scope.specs.Listed.{terms}
use Rattle.orc_scope.proofs.Pieces.{fine_last}
use Rattle.orc_scope.proofs.writer.Writing.root.Goals as goal

pub node_of-requires : goal.node_of-requires
node_of-requires c = fine_last (terms c.args.self.now.nodes) c.args.self.now.pieces.items c.pop.new.self.items c.in-Some.piece c.in-Some.ensures.items c.requires
