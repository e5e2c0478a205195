use Rattle.orc_rules.proofs.Settled.{runs_are_inside}
use Rattle.orc_rules.proofs.laws.runs_are_inside.Goals as goal

pub returns : goal.returns
returns c = runs_are_inside
