use Rattle.std.proofs.Common.{◌≤◌, arith, length, sym, subst}
use Rattle.orc_tables.specs.Steps.{StepTable}
use Rattle.orc_tables.proofs.Takers.{linked-popped}
use Rattle.orc_tables.proofs.steps.Steps.drop_last.Goals as goal

pub invariant_of-self : goal.invariant_of-self
invariant_of-self c =
    let b = c.self.inside in
    let some : 1 ≤ length b.items.items = subst (λ (z : StepTable). 1 ≤ length z.items) (sym c.self.view_is) c.requires in
    linked-popped b.items.items c.pop-step.new.self.items b.takers.items c.pop-taker.new.self.items c.pop-step.result c.pop-taker.result _ _ _ _ c.self.invariant c.pop-step.ensures.items c.pop-taker.ensures.items
    c.pop-step.ensures.cases (omega (arith, some)) c.pop-taker.ensures.cases (omega (arith, some, c.self.invariant.count))
