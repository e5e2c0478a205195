use Rattle.std.proofs.Common.{◌+◌, ◌∙◌, ap, sym, subst, get_or, arith}
use Rattle.orc_term.specs.declared.arena.Node.{Node}
use Rattle.orc_term.specs.Rising.{nowhere, up}
use Rattle.orc_term.proofs.Climbing.{Came, came_none, came_over, came_whole, came_up, came_on, came_never, bound_up}
use Rattle.orc_term.proofs.walk.way_up.Goals as goal

pub loop-steps-init : goal.loop-steps-init
loop-steps-init c = came_none c.args.nodes.now.items c.args.from

pub returns-then-place-eq0-clause-taker : goal.returns-then-place-eq0-clause-taker
returns-then-place-eq0-clause-taker c =
    let nodes = c.args.nodes.now.items in
    let l = c.loop-steps in
    came_whole nodes c.args.from c.hint-place.result l._steps (came_over nodes c.args.from l.place c.hint-place.result l._steps l.invariant c.hint-place.ensures) c.if-place-eq0.true

pub returns-in-Some-clause-taker : goal.returns-in-Some-clause-taker
returns-in-Some-clause-taker c =
    let nodes = c.args.nodes.now.items in
    let l = c.loop-steps in
    let p = c.node_at-parent.ensures in
    let a = c.node_at-above.ensures ∙ ap (λ (z : Node). get_or nodes z.parent nowhere) p in
    came_up nodes c.args.from c.hint-place.result l._steps c.in-Some.taker (came_over nodes c.args.from l.place c.hint-place.result l._steps l.invariant c.hint-place.ensures) (λ e. c.if-place-eq0.false e)
    (sym c.in-Some.is ∙ c.taker_here.ensures ∙ (λ j. up (Node.kind (a j)) c.hint-place.result (Node.parent (p j))))

pub loop-steps-preserved : goal.loop-steps-preserved
loop-steps-preserved c =
    let nodes = c.args.nodes.now.items in
    let l = c.loop-steps in
    let p = c.node_at-parent.ensures in
    let a = c.node_at-above.ensures ∙ ap (λ (z : Node). get_or nodes z.parent nowhere) p in
    subst (λ z. Came nodes c.args.from z (l._steps + 1)) (sym (ap Node.parent p))
    (came_on nodes c.args.from c.hint-place.result l._steps (came_over nodes c.args.from l.place c.hint-place.result l._steps l.invariant c.hint-place.ensures) (λ e. c.if-place-eq0.false e)
    (sym c.in-None.is ∙ c.taker_here.ensures ∙ (λ j. up (Node.kind (a j)) c.hint-place.result (Node.parent (p j)))))

pub returns-clause-none : goal.returns-clause-none
returns-clause-none c = came_never c.args.nodes.now.items c.args.from c.loop-steps.place c.loop-steps._steps c.loop-steps.invariant (omega (arith, c.len-steps-end.ensures.count, c.loop-steps-test.false))

pub returns-in-Some-clause-there : goal.returns-in-Some-clause-there
returns-in-Some-clause-there c =
    let nodes = c.args.nodes.now.items in
    let a = c.node_at-above.ensures in
    bound_up nodes c.hint-place.result c.node_at-parent.result.parent c.in-Some.taker (sym (ap (λ (z : Node). up z.kind c.hint-place.result c.node_at-parent.result.parent) a) ∙ sym c.taker_here.ensures ∙ c.in-Some.is)
