use Rattle.orc_rules.proofs.Passed.{no_right_after}
use Rattle.orc_rules.proofs.laws.no_right_after.Goals as goal

pub returns : goal.returns
returns c = no_right_after
