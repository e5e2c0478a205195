use Rattle.orc_search.proofs.Ahead.{ahead_ends}
use Rattle.orc_search.proofs.laws.ahead_ends.Goals as goal

pub returns : goal.returns
returns c = ahead_ends
