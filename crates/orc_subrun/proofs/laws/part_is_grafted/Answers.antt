use Rattle.orc_subrun.proofs.Grafted.{part_is_grafted}
use Rattle.orc_subrun.proofs.laws.part_is_grafted.Goals as goal

pub returns : goal.returns
returns c = part_is_grafted
