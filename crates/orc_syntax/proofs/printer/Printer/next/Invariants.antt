use Rattle.std.proofs.Common.{◌≡◌, ◌++◌, length}
use Rattle.orc_syntax.specs.Backward.{waiting, visits, says, said}
use Rattle.orc_syntax.proofs.printer.Printer.next.Given as goal

-- what is said so far, and the rest
abbrev pub invariant-loop-task : goal.invariant-loop-task
invariant-loop-task l = (visits (waiting l.self.tasks.items) ≡ visits (waiting l.fn.self.tasks.items)) × (says (waiting l.self.tasks.items) ++ said l.self.pieces.items ≡ says (waiting l.fn.self.tasks.items) ++ said l.fn.self.pieces.items)

abbrev pub decreases-loop-task : goal.decreases-loop-task
decreases-loop-task l = length l.self.tasks.items
