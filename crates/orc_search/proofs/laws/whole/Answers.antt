use Rattle.orc_search.proofs.Graphs.{whole}
use Rattle.orc_search.proofs.laws.whole.Goals as goal

pub returns : goal.returns
returns c = whole
