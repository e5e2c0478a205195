use Rattle.std.proofs.Common.{◌≡◌, ◌++◌, List, drop}
use Rattle.orc_syntax.specs.Tree.{Define}
use Rattle.orc_syntax.specs.Ast.{AreDefinitions}
use Rattle.orc_syntax.specs.Printing.{definitions}
use Rattle.orc_syntax.proofs.printer.print_definitions.Given as goal

abbrev pub invariant-loop-d : goal.invariant-loop-d
invariant-loop-d l = (es : List Define) → AreDefinitions l.ds es → l.out.items ++ definitions (drop l.d-index es) ≡ l.initial.out.items ++ definitions es
