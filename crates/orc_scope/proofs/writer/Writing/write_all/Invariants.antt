use Rattle.std.proofs.Common.{◌≡◌, map, drop}
use Rattle.orc_syntax.specs.Ast.{item}
use Rattle.orc_scope.specs.Building.{builds, AreSmall}
use Rattle.orc_scope.specs.Listed.{terms}
use Rattle.orc_scope.specs.Pieces.{parts, IsReady, Keeps}
use Rattle.orc_scope.proofs.writer.Writing.write_all.Given as goal

abbrev pub invariant-loop-node : goal.invariant-loop-node
invariant-loop-node l = record {
  ready : IsReady l.self;
  keeps : Keeps (terms l.fn.self.nodes) (terms l.self.nodes);
  so_far : AreSmall (map item l.nodes) → builds l.numbers.known l.numbers.names (parts l.self) (map item (drop l.node-index l.nodes)) ≡ builds l.numbers.known l.numbers.names (parts l.fn.self) (map item l.nodes);
}
