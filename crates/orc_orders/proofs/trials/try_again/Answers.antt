use Rattle.std.proofs.Common.{IfErr, subst}
use Rattle.orc_orders.specs.TrialFaults.{IsFaultOfWay}
use Rattle.orc_orders.specs.declared.trials.Trials.{Trials}
use Rattle.orc_orders.proofs.trials.try_again.Goals as goal

pub returns-clause-fault : goal.returns-clause-fault
returns-clause-fault c =
    let source = c.args.trials.now.source.now in
    subst (λ (t : Trials). IfErr c.run.result (IsFaultOfWay source c.args.script.now t.limit)) c.in_ok-its.ensures.trials (c.run.ensures.fault source c.args.script.now)
