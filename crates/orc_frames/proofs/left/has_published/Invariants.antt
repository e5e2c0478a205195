use Rattle.std.proofs.Common.{◌≡◌, ◌≤◌, ◌-◌, length, drop}
use Rattle.orc_frames.specs.Paths.{has_published}
use Rattle.orc_frames.proofs.left.has_published.Given as goal

abbrev pub invariant-loop-at : goal.invariant-loop-at
invariant-loop-at l = record {
  within : l.at ≤ length l.steps.items;
  rest : has_published l.steps.items l.number ≡ has_published (drop l.at l.steps.items) l.number;
}

abbrev pub decreases-loop-at : goal.decreases-loop-at
decreases-loop-at l = length l.steps.items - l.at
