use Rattle.std.proofs.Common.{◌≤◌, ◌+◌, ◌∙◌, sym, ap, List, length, arith, subst}
use Rattle.orc_tables.specs.declared.records.Step.{Step}
use Rattle.orc_tables.specs.Steps.{StepTable, taker_at}
use Rattle.orc_tables.proofs.Takers.{linked-push, new-outer, new-itself}
use Rattle.orc_tables.proofs.steps.Steps.push.Goals.{then-is_try, else-is_try}
use Rattle.orc_tables.proofs.steps.Steps.push.Goals as goal

pub invariant_of-self : goal.invariant_of-self
invariant_of-self c =
    let ss : List Step = c.self.inside.items.items in
    let within : c.args.step.outer ≤ length ss = subst (λ (z : StepTable). c.args.step.outer ≤ length z.items) (sym c.self.view_is) c.requires.within in
    rw (c.push_within.ensures.items, c.push_within-2.ensures.items)
    (linked-push ss c.self.inside.takers.items c.self.invariant c.args.step within c.requires.unmarked c.if-is_try.taker
    (elim c.if-is_try.branch [
      | then-is_try w ↦ w.taker-is ∙ w.taker-taker.ensures ∙ ap (λ (z : StepTable). taker_at z.items c.args.step.outer) (sym c.self.view_is) ∙ sym (new-outer ss c.args.step c.self.invariant.outwards within (sym (w.if-is_try.ensures)))
      | else-is_try w ↦ w.taker-is ∙ ap (λ z. z + 1) w.len.ensures ∙ omega arith ∙ sym (new-itself ss c.args.step (sym (w.if-is_try.ensures)))
    ]))
