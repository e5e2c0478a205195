use Rattle.std.proofs.Common.{◌≡◌, ◌+◌, ◌-◌, ◌^◌, ℕ, List, length, take}
use Rattle.std.specs.Io.KnownBytes.{Consumes}
use Rattle.orc_journal_text.proofs.pieces.Pieces.skip.Given as goal

-- a piece has come, and the first byte is kept
abbrev pub invariant-loop-self : goal.invariant-loop-self
invariant-loop-self g l = (piece : List ℕ) × Consumes l.fn.self.left l.self.left piece × (l.self.rest ≡ take 1 l.fn.self.rest) × (l.self.came ≡ l.fn.self.came + length piece)

abbrev pub decreases-loop-self : goal.decreases-loop-self
decreases-loop-self g l = 2 ^ 64 - l.self.came
