use Rattle.orc_pool.proofs.Histories.{pops}
use Rattle.orc_pool.proofs.own.Own.pop.Goals as goal

pub pop_as-requires-clause-lifo : goal.pop_as-requires-clause-lifo
pop_as-requires-clause-lifo g c = λ _. pops _ _ c.args.self.now.owns
