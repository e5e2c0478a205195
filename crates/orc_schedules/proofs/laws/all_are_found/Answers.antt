use Rattle.orc_schedules.proofs.Found.{all_are_found}
use Rattle.orc_schedules.proofs.laws.all_are_found.Goals as goal

pub returns : goal.returns
returns c = all_are_found
