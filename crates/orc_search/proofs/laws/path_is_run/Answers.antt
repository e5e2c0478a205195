use Rattle.orc_search.proofs.Paths.{path_is_run}
use Rattle.orc_search.proofs.laws.path_is_run.Goals as goal

pub returns : goal.returns
returns c = path_is_run
