use Rattle.std.proofs.Common.{length}
use Rattle.orc_verdict.proofs.position.+some_void.Given as goal

abbrev pub decreases-some_void : goal.decreases-some_void
decreases-some_void l = length l.operands.now
