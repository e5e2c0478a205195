use Rattle.std.proofs.Common.{◌≡◌}
use Rattle.orc_syntax.specs.Backward.{waiting, more}
use Rattle.orc_syntax.proofs.printer.Printer.others.Given as goal

abbrev pub invariant-loop-done : goal.invariant-loop-done
invariant-loop-done l = (waiting l.self.tasks.items ≡ more l._done (waiting l.fn.self.tasks.items)) × (l.self.pieces ≡ l.fn.self.pieces)
