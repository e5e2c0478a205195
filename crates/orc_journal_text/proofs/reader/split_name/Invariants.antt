use Rattle.std.proofs.Common.{◌≤◌, ◌-◌, length}
use Rattle.orc_journal_text.proofs.Loops.{Split}
use Rattle.orc_journal_text.proofs.reader.split_name.Given as goal

abbrev pub invariant-loop-end : goal.invariant-loop-end
invariant-loop-end l = record { within : l.end ≤ length l.bytes; so_far : Split l.bytes l.end }

abbrev pub decreases-loop-end : goal.decreases-loop-end
decreases-loop-end l = length l.bytes - l.end
