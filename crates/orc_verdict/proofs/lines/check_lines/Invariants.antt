use Rattle.std.proofs.Common.{List, ℕ}
use Rattle.std.specs.Io.KnownBytes.{Consumes}
use Rattle.orc_rules.specs.declared.entry.Entry.{Entry}
use Rattle.orc_journal_text.specs.Lines.{HasRead, to_read}
use Rattle.orc_verdict.specs.Verdicts.{records_cancels}
use Rattle.orc_verdict.proofs.Judging.{AreDone}
use Rattle.orc_verdict.proofs.lines.check_lines.Given as goal

abbrev pub invariant-loop-taken : goal.invariant-loop-taken
invariant-loop-taken g l = (piece : List ℕ) × (es : List Entry) × Consumes (g.R.Read.remaining l.fn.text) l.lines.coming.left piece × HasRead l.answers.names piece l.lines es × AreDone l.program l.answers (records_cancels l.lines.version) es l.taken.marked l.taken.levels

abbrev pub decreases-loop-taken : goal.decreases-loop-taken
decreases-loop-taken g l = to_read l.lines
