use Rattle.std.proofs.Common.{subst}
use Rattle.orc_rules.specs.declared.entry.RuleFault.TheVariants as reason
use Rattle.orc_checker.specs.Checker.{context}
use Rattle.orc_verdict.specs.Reasons.{Tests}
use Rattle.orc_verdict.proofs.Entries.{unmet, all_met}
use Rattle.orc_verdict.proofs.reasons.first_reason.Goals as goal

pub returns-then-not-is_in_turn-clause-refused : goal.returns-then-not-is_in_turn-clause-refused
returns-then-not-is_in_turn-clause-refused c cancels p r sp = (tt, unmet c.is_in_turn.result (c.is_in_turn.ensures cancels p r sp) c.if-not-is_in_turn.true)

pub returns-then-not-is_there-clause-refused : goal.returns-then-not-is_there-clause-refused
returns-then-not-is_there-clause-refused c cancels p r sp = ((c.is_in_turn.ensures cancels p r sp).0 c.if-not-is_in_turn.false, unmet c.is_there.result (c.is_there.ensures cancels p r sp) c.if-not-is_there.true)

pub returns-then-not-fits-clause-refused : goal.returns-then-not-fits-clause-refused
returns-then-not-fits-clause-refused c cancels p r sp = (((c.is_in_turn.ensures cancels p r sp).0 c.if-not-is_in_turn.false, (c.is_there.ensures cancels p r sp).0 c.if-not-is_there.false), unmet c.fits.result (c.fits.ensures cancels p r sp) c.if-not-fits.true)

pub returns-then-not-is_counted-clause-refused : goal.returns-then-not-is_counted-clause-refused
returns-then-not-is_counted-clause-refused c cancels p r sp = (((c.is_in_turn.ensures cancels p r sp).0 c.if-not-is_in_turn.false, (c.is_there.ensures cancels p r sp).0 c.if-not-is_there.false, (c.fits.ensures cancels p r sp).0 c.if-not-fits.false), unmet c.is_counted.result (c.is_counted.ensures cancels p r sp) c.if-not-is_counted.true)

pub returns-then-not-is_answered-clause-refused : goal.returns-then-not-is_answered-clause-refused
returns-then-not-is_answered-clause-refused c cancels p r sp = (((c.is_in_turn.ensures cancels p r sp).0 c.if-not-is_in_turn.false, (c.is_there.ensures cancels p r sp).0 c.if-not-is_there.false, (c.fits.ensures cancels p r sp).0 c.if-not-fits.false, (c.is_counted.ensures cancels p r sp).0 c.if-not-is_counted.false), unmet c.is_answered.result (c.is_answered.ensures cancels p r sp) c.if-not-is_answered.true)

pub returns-then-not-is_on_time-clause-refused : goal.returns-then-not-is_on_time-clause-refused
returns-then-not-is_on_time-clause-refused c cancels p r sp = (((c.is_in_turn.ensures cancels p r sp).0 c.if-not-is_in_turn.false, (c.is_there.ensures cancels p r sp).0 c.if-not-is_there.false, (c.fits.ensures cancels p r sp).0 c.if-not-fits.false, (c.is_counted.ensures cancels p r sp).0 c.if-not-is_counted.false, (c.is_answered.ensures cancels p r sp).0 c.if-not-is_answered.false), unmet c.is_on_time.result (c.is_on_time.ensures.time cancels p r sp) c.if-not-is_on_time.true)

pub returns-then-not-is_over-clause-refused : goal.returns-then-not-is_over-clause-refused
returns-then-not-is_over-clause-refused c cancels p r sp =
    let l = c.args.program.now in
    let t = c.args.answers.now in
    let over = subst (λ z. Tests l t c.args.entry.now z reason.Halted c.is_over.result) c.is_on_time.ensures.same c.is_over.ensures in
    (((c.is_in_turn.ensures cancels p r sp).0 c.if-not-is_in_turn.false, (c.is_there.ensures cancels p r sp).0 c.if-not-is_there.false, (c.fits.ensures cancels p r sp).0 c.if-not-fits.false, (c.is_counted.ensures cancels p r sp).0 c.if-not-is_counted.false, (c.is_answered.ensures cancels p r sp).0 c.if-not-is_answered.false, (c.is_on_time.ensures.time cancels p r sp).0 c.if-not-is_on_time.false), unmet c.is_over.result (over cancels p r sp) c.if-not-is_over.true)

pub returns-clause-met : goal.returns-clause-met
returns-clause-met c cancels p r sp =
    let l = c.args.program.now in
    let t = c.args.answers.now in
    let over = subst (λ z. Tests l t c.args.entry.now z reason.Halted c.is_over.result) c.is_on_time.ensures.same c.is_over.ensures in
    all_met (context l t cancels) p c.args.entry.now ((c.is_in_turn.ensures cancels p r sp).0 c.if-not-is_in_turn.false) ((c.is_there.ensures cancels p r sp).0 c.if-not-is_there.false) ((c.fits.ensures cancels p r sp).0 c.if-not-fits.false) ((c.is_counted.ensures cancels p r sp).0 c.if-not-is_counted.false) ((c.is_answered.ensures cancels p r sp).0 c.if-not-is_answered.false) ((c.is_on_time.ensures.time cancels p r sp).0 c.if-not-is_on_time.false) ((over cancels p r sp).0 c.if-not-is_over.false)
