use Rattle.orc_search.proofs.Graphs.{halted_is_ending}
use Rattle.orc_search.proofs.laws.halted_is_ending.Goals as goal

pub returns : goal.returns
returns c = halted_is_ending
