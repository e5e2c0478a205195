use Rattle.std.proofs.Common.{◌≡◌, List, length, map, take}
use Rattle.orc_rules.specs.Programs.{routine_of}
use Rattle.orc_syntax.specs.Tree.{Define}
use Rattle.orc_syntax.specs.Ast.{AreDefinitions}
use Rattle.orc_scope.specs.Building.{HaveSmallBodies}
use Rattle.orc_scope.specs.Listed.{terms}
use Rattle.orc_scope.specs.Program.{written_define}
use Rattle.orc_scope.proofs.Output.{AreWithin, definition_in}
use Rattle.orc_scope.proofs.checker.write_out.Given as goal

abbrev pub invariant-loop-definition : goal.invariant-loop-definition
invariant-loop-definition l = (es : List Define) → AreDefinitions l.ast.definitions.items es → HaveSmallBodies es →
    AreWithin (length (terms l.writing.nodes)) (map routine_of l.definitions.items) × (map (definition_in (terms l.writing.nodes)) (map routine_of l.definitions.items) ≡ map (written_define l.numbers.known l.numbers.names) (take l.definition-index es))
