use Rattle.std.proofs.Common.{◌≡◌, length}
use Rattle.orc_rules.specs.Nodes.{code}
use Rattle.orc_checker.proofs.Halting.{AreHaltsBelow}
use Rattle.orc_checker.proofs.halts.Halts.new.Given as goal

abbrev pub invariant-loop-i : goal.invariant-loop-i
invariant-loop-i l = AreHaltsBelow (code l.program) l.i l.flags.items × (length l.queued.items ≡ l.i)
