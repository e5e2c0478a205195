use Rattle.orc_pool.proofs.Histories.{takes}
use Rattle.orc_pool.proofs.theft.Theft.steal.Goals as goal

pub steal_as-requires-clause-takes : goal.steal_as-requires-clause-takes
steal_as-requires-clause-takes g c = takes _ _
