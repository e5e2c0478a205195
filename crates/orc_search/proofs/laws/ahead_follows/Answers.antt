use Rattle.orc_search.proofs.Ahead.{ahead_follows}
use Rattle.orc_search.proofs.laws.ahead_follows.Goals as goal

pub returns : goal.returns
returns c = ahead_follows
