use Rattle.std.proofs.Common.{◌≡◌, ◌≤◌, ℕ, length}
use Rattle.orc_tables.specs.Steps.{left_among, left_from}
use Rattle.orc_tables.proofs.Takers.{AreLinkedBut}
use Rattle.orc_tables.proofs.steps.Steps.leave.Given as goal

abbrev pub invariant-loop-at : goal.invariant-loop-at
invariant-loop-at l = record {
  links : AreLinkedBut l.self-inside.items.items l.self-inside.takers.items l.at;
  rest : (n : ℕ) × (l.at ≤ n) × (left_among n l.self-inside.items.items l.at ≡ left_from l.initial.self-inside.items.items l.from);
  within : l.at ≤ length l.self-inside.items.items;
}

abbrev pub decreases-loop-at : goal.decreases-loop-at
decreases-loop-at l = l.at
