use Rattle.std.proofs.Common.{length}
use Rattle.orc_frames.proofs.action.+are_values.Given as goal

abbrev pub decreases-are_values : goal.decreases-are_values
decreases-are_values l = length l.operands.now
