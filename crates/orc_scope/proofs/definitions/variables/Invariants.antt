use Rattle.std.proofs.Common.{◌≡◌, List, take}
use Rattle.orc_syntax.specs.Tree.{Define}
use Rattle.orc_syntax.specs.Ast.{AreDefinitions}
use Rattle.orc_scope.specs.Program.{variables_of}
use Rattle.orc_scope.proofs.definitions.variables.Given as goal

abbrev pub invariant-loop-definition : goal.invariant-loop-definition
invariant-loop-definition l = (es : List Define) → AreDefinitions l.ast.definitions.items es → l.names ≡ variables_of (take l.definition-index es)
