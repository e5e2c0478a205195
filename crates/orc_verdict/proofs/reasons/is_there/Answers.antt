use Rattle.std.proofs.Common.{◌∙◌, sym, subst, refl, true}
use Rattle.std.specs.Bool.{Decides}
use Rattle.orc_rules.specs.Nodes.{source}
use Rattle.orc_checker.specs.Checker.{context}
use Rattle.std.specs.Prelude.{◌&&◌}
use Rattle.std.proofs.lemmas.Bool.Decides.{Decides-at, Decides-and}
use Rattle.orc_verdict.specs.Reasons.{IsThereAs}
use Rattle.orc_verdict.proofs.Entries.{as_there}
use Rattle.orc_verdict.proofs.reasons.is_there.Goals as goal

pub returns-in-Token : goal.returns-in-Token
returns-in-Token c cancels p r sp =
    let l = c.args.program.now in
    let x = context l c.args.answers.now cancels in
    as_there p c.args.entry.now c.has_token.result (subst (λ z. Decides c.has_token.result (IsThereAs p z)) (sym c.in-Token.is ∙ c.asks_for.ensures) (c.has_token.ensures x l p (c.journal_is_numbered.ensures x (source l) r.0 p r.1) sp))

pub returns-in-Call : goal.returns-in-Call
returns-in-Call c cancels p r sp =
    let l = c.args.program.now in
    let x = context l c.args.answers.now cancels in
    as_there p c.args.entry.now c.has_call.result (subst (λ z. Decides c.has_call.result (IsThereAs p z)) (sym c.in-Call.is ∙ c.asks_for.ensures) (c.has_call.ensures x l p (c.journal_is_numbered.ensures x (source l) r.0 p r.1) sp))

pub returns-in-Cell : goal.returns-in-Cell
returns-in-Cell c cancels p r sp =
    let l = c.args.program.now in
    let x = context l c.args.answers.now cancels in
    as_there p c.args.entry.now c.has_cell.result (subst (λ z. Decides c.has_cell.result (IsThereAs p z)) (sym c.in-Cell.is ∙ c.asks_for.ensures) (c.has_cell.ensures x l p (c.journal_is_numbered.ensures x (source l) r.0 p r.1) sp))

pub returns-in-Otherwise : goal.returns-in-Otherwise
returns-in-Otherwise c cancels p r sp =
    let l = c.args.program.now in
    let x = context l c.args.answers.now cancels in
    as_there p c.args.entry.now c.has_otherwise.result (subst (λ z. Decides c.has_otherwise.result (IsThereAs p z)) (sym c.in-Otherwise.is ∙ c.asks_for.ensures) (c.has_otherwise.ensures x l p (c.journal_is_numbered.ensures x (source l) r.0 p r.1) sp))

pub returns-in-TokenAndCell : goal.returns-in-TokenAndCell
returns-in-TokenAndCell c cancels p r sp =
    let l = c.args.program.now in
    let x = context l c.args.answers.now cancels in
    let nu = c.journal_is_numbered.ensures x (source l) r.0 p r.1 in
    let a = c.has_token-in-TokenAndCell in
    let b = c.has_cell-in-TokenAndCell in
    as_there p c.args.entry.now c.are_both.result
    (subst (λ z. Decides c.are_both.result (IsThereAs p z)) (sym c.in-TokenAndCell.is ∙ c.asks_for.ensures)
    (Decides-at c.are_both.result (a.result && b.result) c.are_both.ensures (Decides-and a.result b.result (a.ensures x l p nu sp) (b.ensures x l p nu sp))))

pub returns-in-Nothing : goal.returns-in-Nothing
returns-in-Nothing c cancels p r sp = as_there p c.args.entry.now true (subst (λ z. Decides true (IsThereAs p z)) (sym c.in-Nothing.is ∙ c.asks_for.ensures) (λ e. tt, λ h. refl))
