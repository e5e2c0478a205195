use Rattle.orc_schedules.proofs.Ends.{found_are_of_runs}
use Rattle.orc_schedules.proofs.laws.found_are_of_runs.Goals as goal

pub returns : goal.returns
returns c = found_are_of_runs
