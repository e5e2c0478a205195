use Rattle.orc_search.proofs.Successors.{moves_are_listed}
use Rattle.orc_search.proofs.laws.moves_are_listed.Goals as goal

pub returns : goal.returns
returns c = moves_are_listed
