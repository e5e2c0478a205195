use Rattle.std.proofs.Common.{length}
use Rattle.orc_frames.proofs.action.+site_call_action.Given as goal

abbrev pub decreases-site_call_action : goal.decreases-site_call_action
decreases-site_call_action l = length l.operands.now
