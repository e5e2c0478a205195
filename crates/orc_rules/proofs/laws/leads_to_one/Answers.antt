use Rattle.orc_rules.proofs.Determined.{leads_to_one}
use Rattle.orc_rules.proofs.laws.leads_to_one.Goals as goal

pub returns : goal.returns
returns c = leads_to_one
