use Rattle.std.proofs.Common.{◌≡◌, ◌<◌, [], ℕ, length}
use Rattle.orc_term.specs.Ranks.{rank, IsIn}
use Rattle.orc_term.proofs.ranks.push_all.Given as goal

abbrev pub invariant-loop-i : goal.invariant-loop-i
invariant-loop-i l = (l.initial.numbers.items ≡ [] → (length l.numbers.items ≡ l.i) × ((i : ℕ) → rank l.numbers.items i ≡ 0)) × ((i : ℕ) → i < l.i → IsIn i l.late.items)
