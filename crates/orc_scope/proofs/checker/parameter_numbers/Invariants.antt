use Rattle.std.proofs.Common.{◌≡◌, map, take}
use Rattle.orc_syntax.specs.Ast.{label}
use Rattle.orc_scope.specs.Written.{number}
use Rattle.orc_scope.proofs.checker.parameter_numbers.Given as goal

abbrev pub invariant-loop-parameter : goal.invariant-loop-parameter
invariant-loop-parameter l = l.params.items ≡ map (λ x. number l.numbers.names x.text) (map label (take l.parameter-index l.parameters))
