use Rattle.std.proofs.Common.{ℕ, List, ◌≡◌, ◌-◌, ◌^◌}
use Rattle.std.specs.Io.KnownBytes.{Consumes}
use Rattle.orc_journal_text.specs.Lines.{with_piece}
use Rattle.orc_journal_text.proofs.lines.Lines.next.Given as goal

-- nothing is used, and a piece has come
abbrev pub invariant-loop-self : goal.invariant-loop-self
invariant-loop-self g l = (piece : List ℕ) × Consumes l.initial.self.coming.left l.self.coming.left piece × (l.self ≡ with_piece l.initial.self piece l.self.coming.left)

abbrev pub decreases-loop-self : goal.decreases-loop-self
decreases-loop-self g l = 2 ^ 64 - l.self.coming.came
