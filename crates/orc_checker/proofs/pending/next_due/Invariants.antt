use Rattle.std.proofs.Common.{length}
use Rattle.orc_checker.specs.NextDue.{AreNoted}
use Rattle.orc_checker.proofs.pending.next_due.Given as goal

abbrev pub invariant-loop-time : goal.invariant-loop-time
invariant-loop-time l = AreNoted l.nodes.items l.calls.items l.due

abbrev pub decreases-loop-time : goal.decreases-loop-time
decreases-loop-time l = length l.due
