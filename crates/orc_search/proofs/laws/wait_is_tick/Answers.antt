use Rattle.orc_search.proofs.Paths.{wait_is_tick}
use Rattle.orc_search.proofs.laws.wait_is_tick.Goals as goal

pub returns : goal.returns
returns c = wait_is_tick
