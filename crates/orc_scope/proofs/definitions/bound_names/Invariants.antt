use Rattle.std.proofs.Common.{◌≡◌, ◌++◌, map, take}
use Rattle.orc_syntax.specs.Ast.{item}
use Rattle.orc_scope.proofs.Bound.{items_names}
use Rattle.orc_scope.proofs.definitions.bound_names.Given as goal

abbrev pub invariant-loop-node : goal.invariant-loop-node
invariant-loop-node l = l.names ≡ l.fn.names ++ items_names (map item (take l.node-index l.nodes))
