-- The entries so far lead to a place that the marked term spells.
use Rattle.std.proofs.Common.{take}
use Rattle.orc_scheduler.specs.Ends.{IsSpelt}
use Rattle.orc_scheduler.proofs.quiet.is_quiet_at.Given as goal

abbrev pub invariant-loop-at : goal.invariant-loop-at
invariant-loop-at l = IsSpelt l.program l.answers (take l.at l.journal.entries) l.marked
