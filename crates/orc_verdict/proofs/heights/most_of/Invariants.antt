use Rattle.std.proofs.Common.{◌≤◌, ◌<◌, ℕ}
use Rattle.orc_verdict.specs.Heights.{height}
use Rattle.orc_verdict.proofs.heights.most_of.Given as goal

abbrev pub invariant-loop-i : goal.invariant-loop-i
invariant-loop-i l = (1 ≤ l.most) × ((k : ℕ) → k < l.i → height l.levels.items k ≤ l.most)
