use Rattle.std.proofs.Common.{◌≡◌}
use Rattle.orc_tables.specs.Inside.{is_among}
use Rattle.orc_tables.proofs.steps.Steps.is_inside.Given as goal

abbrev pub invariant-loop-left : goal.invariant-loop-left
invariant-loop-left l = is_among l.cell l.self.items l.left l.at ≡ is_among l.cell l.self.items l.from l.from

abbrev pub decreases-loop-left : goal.decreases-loop-left
decreases-loop-left l = l.left
