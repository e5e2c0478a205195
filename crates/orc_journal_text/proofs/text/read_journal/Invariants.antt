use Rattle.std.proofs.Common.{◌≡◌, ℕ, List, Some}
use Rattle.std.specs.Io.KnownBytes.{Consumes}
use Rattle.orc_journal_text.specs.Lines.{HasRead, to_read}
use Rattle.orc_journal_text.proofs.text.read_journal.Given as goal

abbrev pub invariant-loop-journal : goal.invariant-loop-journal
invariant-loop-journal l = (l.lines.version ≡ l.journal.version) × ((piece : List ℕ) × Consumes (Some l.fn.text) l.lines.coming.left piece × HasRead l.answers.names piece l.lines l.journal.entries)

abbrev pub decreases-loop-journal : goal.decreases-loop-journal
decreases-loop-journal l = to_read l.lines
