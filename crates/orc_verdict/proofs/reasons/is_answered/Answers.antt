use Rattle.std.proofs.Common.{◌∙◌, sym, subst}
use Rattle.std.specs.Bool.{Decides}
use Rattle.orc_rules.specs.Nodes.{source}
use Rattle.orc_checker.specs.Checker.{context}
use Rattle.orc_verdict.proofs.Entries.{AnsweredAs, as_answered}
use Rattle.orc_verdict.proofs.reasons.is_answered.Goals as goal

pub returns-in-Some : goal.returns-in-Some
returns-in-Some c cancels p r sp =
    let l = c.args.program.now in
    let x = context l c.args.answers.now cancels in
    as_answered x p c.args.entry.now c.is_answer.result (subst (λ z. Decides c.is_answer.result (AnsweredAs x p z)) (sym c.in-Some.is ∙ c.answer_named.ensures) (c.is_answer.ensures x l p (c.journal_is_numbered.ensures x (source l) r.0 p r.1) sp))
