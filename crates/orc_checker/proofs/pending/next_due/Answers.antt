use Rattle.std.proofs.Common.{sym, ◌∙◌, subst}
use Rattle.orc_checker.specs.NextDue.{AreNoted}
use Rattle.orc_checker.proofs.Earliest.{next_first, next_none, noted_less}
use Rattle.orc_checker.proofs.pending.next_due.Goals as goal

pub returns-then-waits_until-clause-next : goal.returns-then-waits_until-clause-next
returns-then-waits_until-clause-next c = next_first c.args.nodes.now.items c.args.calls.now.items c.loop-time.due c.in-Some.time c.in-Some.node c.loop-time.invariant c.in-Some.ensures (c.waits_until.ensures.0 c.if-waits_until.true)

pub loop-time-preserved : goal.loop-time-preserved
loop-time-preserved c =
    let first = c.in-Some.ensures in
    let is = first.0.1 in
    subst (AreNoted c.args.nodes.now.items c.args.calls.now.items) (sym (c.drop_first.ensures _ _ is))
    (noted_less c.args.nodes.now.items c.args.calls.now.items c.loop-time.due first.0.0 c.in-Some.time c.in-Some.node c.loop-time.invariant is (λ d. absurd (cc (sym c.if-waits_until.false ∙ c.waits_until.ensures.1 d))))

pub returns-clause-next : goal.returns-clause-next
returns-clause-next c = next_none c.args.nodes.now.items c.args.calls.now.items c.loop-time.due c.loop-time.invariant c.in_default.ensures
