use Rattle.std.proofs.Common.{length}
use Rattle.orc_rules.proofs.lines.Patterns.+fill.Given as goal

abbrev pub decreases-fill : goal.decreases-fill
decreases-fill l = length l.shape.now
