use Rattle.std.proofs.Common.{rules, map, ap, ◌∙◌}
use Rattle.orc_syntax.specs.Ast.{item}
use Rattle.orc_scope.proofs.Output.{last_span}
use Rattle.orc_scope.proofs.checker.main_span.Goals as goal

pub returns-in-Some : goal.returns-in-Some
returns-in-Some c = λ s is. last_span c.deref.result.now s.main c.in-Some.node.now (ap (map item) c.deref.ensures.value ∙ is.main) (search rules)
