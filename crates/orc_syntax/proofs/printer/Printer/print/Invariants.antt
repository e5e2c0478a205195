use Rattle.std.proofs.Common.{◌≡◌, ◌≤◌, ◌++◌, length, map, reverse, take}
use Rattle.orc_syntax.specs.Ast.{item}
use Rattle.orc_syntax.specs.Backward.{back, waiting, said}
use Rattle.orc_syntax.proofs.printer.Printer.print.Given as goal

-- what is still to come, before what is said
abbrev pub invariant-loop-count : goal.invariant-loop-count
invariant-loop-count l =
    (back (waiting l.self.tasks.items) (reverse (map item (take l.count l.nodes))) ++ said l.self.pieces.items ≡ back (waiting l.fn.self.tasks.items) (reverse (map item l.nodes)) ++ said l.fn.self.pieces.items)
    × (l.count ≤ length l.nodes)

abbrev pub decreases-loop-count : goal.decreases-loop-count
decreases-loop-count l = l.count
