use Rattle.orc_search.proofs.Successors.{passes_by_wait}
use Rattle.orc_search.proofs.laws.passes_by_wait.Goals as goal

pub returns : goal.returns
returns c = passes_by_wait
