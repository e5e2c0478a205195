use Rattle.orc_search.proofs.Graphs.{run_is_watched}
use Rattle.orc_search.proofs.laws.run_is_watched.Goals as goal

pub returns : goal.returns
returns c = run_is_watched
