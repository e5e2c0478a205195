use Rattle.std.proofs.Common.{◌≡◌, ◌∙◌, List, All, arith, subst}
use Rattle.std.proofs.lemmas.Result.{err_from_is_err_and}
use Rattle.orc_tally.specs.declared.sight.ClaimSite.{ClaimSite}
use Rattle.orc_orders.specs.TrialFaults.{IsFaultOfWay}
use Rattle.orc_orders.specs.Trials.{IsTrial}
use Rattle.orc_orders.specs.declared.trials.Trials.{Trials}
use Rattle.orc_orders.proofs.trials.try_way.Goals as goal

pub returns-in_err-told-clause-fault : goal.returns-in_err-told-clause-fault
returns-in_err-told-clause-fault c =
    let source = c.args.trials.now.source.now in
    let p = err_from_is_err_and c.from_residual-in_err-told.result c.from_residual-in_err-told.ensures.1 in
    let fault = subst (λ (t : Trials). IsFaultOfWay source c.args.script.now t.limit c.in_err-told.field-0.0) c.in_ok-its.ensures.trials (c.in_err-told.ensures.fault source c.args.script.now) in
    rw (p.1, p.2) fault

pub returns-clause-told : goal.returns-clause-told
returns-clause-told c =
    let its = c.in_ok-its.its in
    let so = c.loop-order.invariant.0 in
    let all : c.loop-order.order ≡ c.args.trials.now.orders = omega (arith, c.loop-order-test.false, c.loop-order.auto.order-end) in
    record {
      seen = so.seen;
      tried = record {
        table = its.loaded.answers;
        says = c.in_ok-its.ensures.says;
        listing = its.loaded.program;
        spells = c.in_ok-its.ensures.spells;
        each = so.each ∙ all;
        runs = subst (λ (ss : List ClaimSite). All (IsTrial its.loaded.program its.loaded.answers ss c.args.trials.now.limit) so.seen) c.in_ok-its.ensures.sites so.runs;
      };
      told = so.told;
      cut = so.cut;
    }
