use Rattle.std.proofs.Common.{length}
use Rattle.orc_tables.specs.PendingCalls.{HaveNotes}
use Rattle.orc_tables.proofs.pending.due_beyond.Given as goal

abbrev pub invariant-loop-number : goal.invariant-loop-number
invariant-loop-number l = HaveNotes l.dues l.items.items

abbrev pub decreases-loop-number : goal.decreases-loop-number
decreases-loop-number l = length l.dues
