use Rattle.std.proofs.Common.{length}
use Rattle.orc_checker.proofs.void.+has_void.Given as goal

abbrev pub decreases-has_void : goal.decreases-has_void
decreases-has_void l = length l.operands.now
