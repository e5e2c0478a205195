use Rattle.std.proofs.Common.{rules}
use Rattle.orc_scope.specs.Listed.{terms, term_of}
use Rattle.orc_scope.proofs.Pieces.{join_parts, join_ready}
use Rattle.orc_scope.proofs.writer.Writing.join.Goals as goal

pub returns-clause-parts : goal.returns-clause-parts
returns-clause-parts c = join_parts (terms c.args.self.now.nodes) (terms c.add.new.self) c.args.self.now.pieces.items c.push.new.self.items (term_of c.args.self.now.nodes c.args.node) c.in_ok-at.at (search rules) (search rules) (search rules) c.requires.ready

pub returns-clause-ready : goal.returns-clause-ready
returns-clause-ready c = join_ready (terms c.args.self.now.nodes) (terms c.add.new.self) c.args.self.now.pieces.items c.push.new.self.items (term_of c.args.self.now.nodes c.args.node) c.in_ok-at.at (search rules) (search rules) (search rules) c.requires.whole c.requires.ready
