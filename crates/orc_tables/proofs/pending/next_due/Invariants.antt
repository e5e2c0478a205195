use Rattle.std.proofs.Common.{length}
use Rattle.orc_tables.specs.PendingCalls.{HaveNotes}
use Rattle.orc_tables.proofs.pending.next_due.Given as goal

abbrev pub invariant-loop-time : goal.invariant-loop-time
invariant-loop-time l = HaveNotes l.dues l.items.items

abbrev pub decreases-loop-time : goal.decreases-loop-time
decreases-loop-time l = length l.dues
