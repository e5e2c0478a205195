use Rattle.orc_rules.proofs.UsedUp.{used_up_for_good}
use Rattle.orc_rules.proofs.laws.used_up_for_good.Goals as goal

pub returns : goal.returns
returns c = used_up_for_good
