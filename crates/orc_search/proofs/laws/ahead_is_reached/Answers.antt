use Rattle.orc_search.proofs.Ahead.{ahead_is_reached}
use Rattle.orc_search.proofs.laws.ahead_is_reached.Goals as goal

pub returns : goal.returns
returns c = ahead_is_reached
