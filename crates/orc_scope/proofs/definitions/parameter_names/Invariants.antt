use Rattle.std.proofs.Common.{◌≡◌, ◌++◌, map, take}
use Rattle.orc_syntax.specs.Ast.{label}
use Rattle.orc_scope.specs.Program.{text}
use Rattle.orc_scope.proofs.definitions.parameter_names.Given as goal

abbrev pub invariant-loop-parameter : goal.invariant-loop-parameter
invariant-loop-parameter l = l.names ≡ l.fn.names ++ map text (map label (take l.parameter-index l.parameters))
