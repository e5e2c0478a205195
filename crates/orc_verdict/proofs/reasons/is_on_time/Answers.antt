use Rattle.std.proofs.Common.{◌∙◌, sym, subst, refl, None}
use Rattle.std.specs.Bool.{Decides}
use Rattle.orc_rules.specs.Nodes.{source}
use Rattle.orc_checker.specs.Checker.{context}
use Rattle.orc_verdict.specs.Reasons.{answer_of}
use Rattle.orc_verdict.proofs.Entries.{TimedAs, as_timed}
use Rattle.orc_verdict.proofs.reasons.is_on_time.Goals as goal

pub returns-in-Some-clause-time : goal.returns-in-Some-clause-time
returns-in-Some-clause-time c cancels p r sp =
    let x = context c.args.program.now c.args.answers.now cancels in
    let e = c.args.entry.now in
    as_timed x p e c.can_tick.result (subst (λ z. Decides c.can_tick.result (TimedAs x p z (answer_of e))) (sym c.in-Some.is ∙ c.tick_named.ensures) (c.can_tick.ensures.tick x p refl sp))

pub returns-in-Some-answer_named-clause-time : goal.returns-in-Some-answer_named-clause-time
returns-in-Some-answer_named-clause-time c cancels p r sp =
    let l = c.args.program.now in
    let x = context l c.args.answers.now cancels in
    let e = c.args.entry.now in
    as_timed x p e c.is_due.result
    (subst (λ z. Decides c.is_due.result (TimedAs x p z (answer_of e))) (sym c.in-None.is ∙ c.tick_named.ensures)
    (subst (λ z. Decides c.is_due.result (TimedAs x p None z)) (sym c.in-Some-answer_named.is ∙ c.answer_named.ensures) (c.is_due.ensures x l p (c.journal_is_numbered.ensures x (source l) r.0 p r.1) sp)))
