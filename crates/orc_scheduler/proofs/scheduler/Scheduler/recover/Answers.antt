use Rattle.orc_scheduler.proofs.Stopping.{weaker, work-is-found}
use Rattle.orc_scheduler.proofs.scheduler.Scheduler.recover.Goals as goal

pub unreachable-requires : goal.unreachable-requires
unreachable-requires g c = work-is-found g.P.Run.listing c.args.self.now.ledger c.requires.due c.requires.work c.in_default.ensures c.in-None.ensures

pub returns-clause-advances : goal.returns-clause-advances
returns-clause-advances g c =
    let found = c.in-Some-empty_group.ensures in
    weaker c.close_from.result _ _ (λ x further. further found.1.0 found.1.1 found.0) c.close_from.ensures.advances
