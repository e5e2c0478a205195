use Rattle.std.proofs.Common.{◌≡◌, ◌++◌, drop, map}
use Rattle.orc_syntax.specs.Ast.{label}
use Rattle.orc_syntax.specs.Printing.{other_names}
use Rattle.orc_syntax.proofs.printer.print_other_names.Given as goal

abbrev pub invariant-loop-x : goal.invariant-loop-x
invariant-loop-x l = l.out.items ++ other_names (map label (drop l.x-index l.xs)) ≡ l.initial.out.items ++ other_names (map label l.xs)
