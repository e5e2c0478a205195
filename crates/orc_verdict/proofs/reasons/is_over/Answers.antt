use Rattle.std.proofs.Common.{◌∙◌, sym, subst, refl, true}
use Rattle.std.specs.Bool.{Decides}
use Rattle.orc_rules.specs.Nodes.{source}
use Rattle.orc_checker.specs.Checker.{context}
use Rattle.orc_verdict.proofs.Entries.{IsOverAs, as_over}
use Rattle.orc_verdict.proofs.reasons.is_over.Goals as goal

pub returns-in-Cell : goal.returns-in-Cell
returns-in-Cell c cancels p r sp =
    let l = c.args.program.now in
    let x = context l c.args.answers.now cancels in
    as_over p c.args.entry.now c.right_is_over.result (subst (λ z. Decides c.right_is_over.result (IsOverAs p z)) (sym c.in-Cell.is ∙ c.asks_for.ensures) (c.right_is_over.ensures x l p (c.journal_is_numbered.ensures x (source l) r.0 p r.1) sp))

pub returns-in-Otherwise : goal.returns-in-Otherwise
returns-in-Otherwise c cancels p r sp =
    let l = c.args.program.now in
    let x = context l c.args.answers.now cancels in
    as_over p c.args.entry.now c.left_is_over.result (subst (λ z. Decides c.left_is_over.result (IsOverAs p z)) (sym c.in-Otherwise.is ∙ c.asks_for.ensures) (c.left_is_over.ensures x l p (c.journal_is_numbered.ensures x (source l) r.0 p r.1) sp))

pub returns-in-Token : goal.returns-in-Token
returns-in-Token c cancels p r sp = as_over p c.args.entry.now true (subst (λ z. Decides true (IsOverAs p z)) (sym c.in-Token.is ∙ c.asks_for.ensures) (λ e. tt, λ h. refl))

pub returns-in-Call : goal.returns-in-Call
returns-in-Call c cancels p r sp = as_over p c.args.entry.now true (subst (λ z. Decides true (IsOverAs p z)) (sym c.in-Call.is ∙ c.asks_for.ensures) (λ e. tt, λ h. refl))

pub returns-in-TokenAndCell : goal.returns-in-TokenAndCell
returns-in-TokenAndCell c cancels p r sp = as_over p c.args.entry.now true (subst (λ z. Decides true (IsOverAs p z)) (sym c.in-TokenAndCell.is ∙ c.asks_for.ensures) (λ e. tt, λ h. refl))

pub returns-in-Nothing : goal.returns-in-Nothing
returns-in-Nothing c cancels p r sp = as_over p c.args.entry.now true (subst (λ z. Decides true (IsOverAs p z)) (sym c.in-Nothing.is ∙ c.asks_for.ensures) (λ e. tt, λ h. refl))
