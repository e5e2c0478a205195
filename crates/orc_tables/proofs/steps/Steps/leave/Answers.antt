use Rattle.std.proofs.Common.{◌-◌, ◌∙◌, ◌<◌, List, arith, sym, ap}
use Rattle.std.proofs.lemmas.List.{length-set}
use Rattle.orc_tables.specs.declared.records.Step.{Step}
use Rattle.orc_tables.specs.Steps.{StepTable, IsMarked, marked, left_from}
use Rattle.orc_tables.proofs.Takers.{marked-all, left-idle, linked-end, way-ends, way-linked, way-falls, way-rest, step-there}
use Rattle.orc_tables.proofs.steps.Steps.leave.Goals.{then-not-is_try-via-then-not-is_try, then-not-is_try-via-else-not-is_try+then-step}
use Rattle.orc_tables.proofs.steps.Steps.leave.Goals as goal

pub invariant_of-self-then-not-is_try : goal.invariant_of-self-then-not-is_try
invariant_of-self-then-not-is_try c =
    let now : List Step = c.loop-at.self-inside.items.items in
    let at = c.loop-at.at in
    let x : Step = c.index-step.result.now in
    let h = step-there now at x c.loop-at.invariant.within c.loop-at-test.true c.index-step.ensures in
    let here : IsMarked now at = way-ends now at c.loop-at-test.true x h (λ tries. elim c.then-not-is_try.branch [
      | then-not-is_try-via-then-not-is_try w ↦ cc (sym tries ∙ sym (w.if-not-is_try.ensures))
      | then-not-is_try-via-else-not-is_try+then-step w ↦ w.if-step.true
    ]) in
    linked-end now c.loop-at.self-inside.takers.items at c.loop-at.invariant.links here

pub returns-then-not-is_try : goal.returns-then-not-is_try
returns-then-not-is_try c =
    let now : List Step = c.loop-at.self-inside.items.items in
    let at = c.loop-at.at in
    let x : Step = c.index-step.result.now in
    let h = step-there now at x c.loop-at.invariant.within c.loop-at-test.true c.index-step.ensures in
    let here : IsMarked now at = way-ends now at c.loop-at-test.true x h (λ tries. elim c.then-not-is_try.branch [
      | then-not-is_try-via-then-not-is_try w ↦ cc (sym tries ∙ sym (w.if-not-is_try.ensures))
      | then-not-is_try-via-else-not-is_try+then-step w ↦ w.if-step.true
    ]) in
    sym (left-idle now (marked-all now at c.loop-at.invariant.links.marks here) c.loop-at.invariant.rest.0 at here) ∙ c.loop-at.invariant.rest.2 ∙ ap (λ (z : StepTable). left_from z.items c.args.from) c.self.view_is

pub loop-at-smaller : goal.loop-at-smaller
loop-at-smaller c =
    let now : List Step = c.loop-at.self-inside.items.items in
    let at = c.loop-at.at in
    let x : Step = c.index-step.result.now in
    let h = step-there now at x c.loop-at.invariant.within c.loop-at-test.true c.index-step.ensures in
    way-falls now at c.loop-at-test.true x h c.loop-at.self-inside.takers.items c.loop-at.invariant.links

pub loop-at-preserved : goal.loop-at-preserved
loop-at-preserved c =
    let now : List Step = c.loop-at.self-inside.items.items in
    let at = c.loop-at.at in
    let x : Step = c.index-step.result.now in
    let h = step-there now at x c.loop-at.invariant.within c.loop-at-test.true c.index-step.ensures in
    let falls : x.outer < at = way-falls now at c.loop-at-test.true x h c.loop-at.self-inside.takers.items c.loop-at.invariant.links in
    record {
      links = way-linked now at c.loop-at-test.true x h c.loop-at.self-inside.takers.items c.loop-at.invariant.links;
      rest = way-rest now at c.loop-at-test.true x h c.loop-at.self-inside.takers.items c.loop-at.invariant.links (left_from c.self.inside.items.items c.args.from) (sym (c.if-not-is_try.ensures)) c.loop-at.invariant.rest;
      within = omega (arith, falls, c.loop-at.invariant.within, length-set now (at - 1) (marked x));
    }
