use Rattle.orc_search.proofs.Graphs.{quiet_is_ending}
use Rattle.orc_search.proofs.laws.quiet_is_ending.Goals as goal

pub returns : goal.returns
returns c = quiet_is_ending
