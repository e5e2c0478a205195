use Rattle.orc_search.proofs.Paths.{move_is_step}
use Rattle.orc_search.proofs.laws.move_is_step.Goals as goal

pub returns : goal.returns
returns c = move_is_step
