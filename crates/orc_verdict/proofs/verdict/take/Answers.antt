use Rattle.std.proofs.Common.{◌∙◌, ◌+◌, ap, sym, subst, arith}
use Rattle.orc_rules.specs.Nodes.{code}
use Rattle.orc_checker.specs.Checker.{State, Spells}
use Rattle.orc_verdict.specs.Reasons.{RefusedFor}
use Rattle.orc_verdict.specs.Verdicts.{Takes}
use Rattle.orc_verdict.proofs.Judging.{stops_refused, takes_within, takes_exactly, takes_bounded, stops_deep, stops_there}
use Rattle.orc_verdict.proofs.verdict.take.Goals as goal

pub returns-in-Some-clause-refused : goal.returns-in-Some-clause-refused
returns-in-Some-clause-refused c are =
    let l = c.args.program.now in
    let t = c.args.answers.now in
    let e = c.args.entry.now in
    stops_refused l t e c.args.taken.now.marked c.in-Some.why c.meets_and_leads.ensures (subst (λ z. RefusedFor l t e z c.in-Some.why) c.in-Err.ensures.refused c.in-Some.ensures.refused)

pub returns-in-Some-allowed-clause-done : goal.returns-in-Some-allowed-clause-done
returns-in-Some-allowed-clause-done c are low =
    let levels = c.args.taken.now.levels in
    takes_within c.args.program.now c.args.answers.now c.args.entry.now c.args.taken.now.marked c.step.new.self c.in-Ok.ensures.done c.args.heights.now c.args.most levels c.in-Some-allowed.levels are low
    (c.in-Some-allowed.ensures.0 ∙ ap (λ z. levels + z) c.deepening.ensures)
    c.in-Some-allowed.ensures.1

pub returns-then-levels-gt-MOST_LEVELS-clause-refused : goal.returns-then-levels-gt-MOST_LEVELS-clause-refused
returns-then-levels-gt-MOST_LEVELS-clause-refused c are =
    let l = c.args.program.now in
    stops_deep l c.args.answers.now c.args.entry.now c.args.taken.now.marked c.step.new.self c.in-Ok.ensures.done c.in-Ok-depth_of.levels
    (λ x p sp. c.in-Ok-depth_of.ensures x l p are (subst (λ (m : State). Spells x (code l) m p) (sym c.allowed_depth.ensures.same) sp))
    (omega (arith, c.if-levels-gt-MOST_LEVELS.true))

pub returns-else-levels-gt-MOST_LEVELS-clause-done : goal.returns-else-levels-gt-MOST_LEVELS-clause-done
returns-else-levels-gt-MOST_LEVELS-clause-done c are low =
    let l = c.args.program.now in
    let t = c.args.answers.now in
    let e = c.args.entry.now in
    let s = c.args.taken.now.marked in
    let n = c.args.taken.now.levels in
    subst (λ (m : State). Takes l t e s n m c.in-Ok-depth_of.levels) (sym c.allowed_depth.ensures.same)
    (takes_exactly l t e s c.step.new.self c.in-Ok.ensures.done n c.in-Ok-depth_of.levels
    (λ x p sp. c.in-Ok-depth_of.ensures x l p are (subst (λ (m : State). Spells x (code l) m p) (sym c.allowed_depth.ensures.same) sp))
    (omega (arith, c.if-levels-gt-MOST_LEVELS.false)))

pub returns-in-Err-depth_of-clause-refused : goal.returns-in-Err-depth_of-clause-refused
returns-in-Err-depth_of-clause-refused c are = stops_there c.args.program.now c.args.answers.now c.args.entry.now c.args.taken.now.marked c.step.new.self c.in-Ok.ensures.done c.meets_and_leads.ensures

pub returns-in-Some-allowed_depth-clause-done : goal.returns-in-Some-allowed_depth-clause-done
returns-in-Some-allowed_depth-clause-done c are low =
    let l = c.args.program.now in
    let t = c.args.answers.now in
    let e = c.args.entry.now in
    let s = c.args.taken.now.marked in
    let n = c.args.taken.now.levels in
    let its = c.in-Some-allowed_depth.ensures.depth in
    subst (λ (m : State). Takes l t e s n m c.in-Some-allowed_depth.levels) (sym c.allowed_depth.ensures.same)
    (takes_bounded l t e s c.step.new.self c.in-Ok.ensures.done n c.in-Some-allowed_depth.levels (λ x p sp. its.0 x l p c.args.heights.now are low sp) its.1)
