use Rattle.std.proofs.Common.{◌≡◌, ◌++◌, ℕ, List}
use Rattle.std.specs.Io.KnownBytes.{Consumes}
use Rattle.orc_rules.specs.declared.entry.Entry.{Entry}
use Rattle.orc_journal_text.specs.Lines.{HasRead, to_read}
use Rattle.orc_journal_text.proofs.lines.Lines.finish.Given as goal

abbrev pub invariant-loop : goal.invariant-loop
invariant-loop g l = (l.self.version ≡ l.initial.self.version) × ((piece : List ℕ) × Consumes l.initial.self.coming.left l.self.coming.left piece
    × ((text : List ℕ) (es : List Entry) → HasRead l.answers.names text l.initial.self es → (more : List Entry) × HasRead l.answers.names (text ++ piece) l.self (es ++ more)))

abbrev pub decreases-loop : goal.decreases-loop
decreases-loop g l = to_read l.self
