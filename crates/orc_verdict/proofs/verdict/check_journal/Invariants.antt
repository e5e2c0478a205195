use Rattle.std.proofs.Common.{take}
use Rattle.orc_verdict.specs.Verdicts.{records_cancels}
use Rattle.orc_verdict.proofs.Judging.{AreDone}
use Rattle.orc_verdict.proofs.verdict.check_journal.Given as goal

abbrev pub invariant-loop-next : goal.invariant-loop-next
invariant-loop-next l = AreDone l.program l.answers (records_cancels l.journal.version) (take l.next l.journal.entries) l.taken.marked l.taken.levels
