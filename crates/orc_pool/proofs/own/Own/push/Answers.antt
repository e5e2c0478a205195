use Rattle.orc_pool.proofs.Histories.{pushes}
use Rattle.orc_pool.proofs.own.Own.push.Goals as goal

pub push_as-requires-clause-pushes : goal.push_as-requires-clause-pushes
push_as-requires-clause-pushes g c = pushes _ _ _ c.args.self.now.owns
