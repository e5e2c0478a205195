use Rattle.std.proofs.Common.{length}
use Rattle.orc_search.proofs.node.+are_same_params.Given as goal

abbrev pub decreases-are_same_params : goal.decreases-are_same_params
decreases-are_same_params l = length l.a.now
