use Rattle.orc_search.proofs.States.{run_is_path}
use Rattle.orc_search.proofs.laws.run_is_path.Goals as goal

pub returns : goal.returns
returns c = run_is_path
