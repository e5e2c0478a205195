use Rattle.std.proofs.Common.{length}
use Rattle.orc_verdict.proofs.position.+are_these.Given as goal

abbrev pub decreases-are_these : goal.decreases-are_these
decreases-are_these l = length l.operands.now
