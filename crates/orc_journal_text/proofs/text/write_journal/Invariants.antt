-- The lines of the entries so far are written, and each has one.
use Rattle.std.proofs.Common.{◌≡◌, ◌++◌, take}
use Rattle.orc_journal_text.specs.Texts.{entry_lines, AreOf}
use Rattle.orc_journal_text.proofs.text.write_journal.Given as goal

abbrev pub invariant-loop-at : goal.invariant-loop-at
invariant-loop-at l = (l.out.items ≡ l.initial.out.items ++ entry_lines l.answers.names (take l.at l.journal.entries)) × AreOf l.answers.names l.journal.version (take l.at l.journal.entries)
