use Rattle.orc_search.proofs.Listed.{listed_are_moves}
use Rattle.orc_search.proofs.laws.listed_are_moves.Goals as goal

pub returns : goal.returns
returns c = listed_are_moves
