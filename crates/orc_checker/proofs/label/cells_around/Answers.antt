use Rattle.std.proofs.Common.{◌++◌, ◌∙◌, ap, sym, subst, get_or}
use Rattle.orc_term.specs.declared.arena.Node.{Node}
use Rattle.orc_term.specs.Rising.{nowhere}
use Rattle.orc_checker.specs.Labelling.{cell_above, AreAround}
use Rattle.orc_checker.proofs.Labelling.{Collects, collects_none, collects_on, collects_all}
use Rattle.orc_checker.proofs.label.cells_around.Goals as goal

pub returns-then-place-eq0 : goal.returns-then-place-eq0
returns-then-place-eq0 c = subst (AreAround c.args.nodes.now.items c.args.from) (sym c.reverse.ensures.items) (collects_all c.args.nodes.now.items c.args.from c.loop-steps.place c.loop-steps.cells.items c.loop-steps.invariant c.if-place-eq0.true)

pub loop-steps-init : goal.loop-steps-init
loop-steps-init c = subst (Collects c.args.nodes.now.items c.args.from c.args.from) (sym c.new-cells.ensures.items) (collects_none c.args.nodes.now.items c.args.from)

pub loop-steps-preserved : goal.loop-steps-preserved
loop-steps-preserved c =
    let nodes = c.args.nodes.now.items in
    let place = c.loop-steps.place in
    let cells = c.loop-steps.cells.items in
    let p = c.node_at-parent.ensures in
    let a = c.node_at-above.ensures ∙ ap (λ (z : Node). get_or nodes z.parent nowhere) p in
    subst (λ z. Collects nodes c.args.from z c.push_cell.new.cells.items) (sym (ap Node.parent p))
    (subst (Collects nodes c.args.from (Node.parent (get_or nodes place nowhere))) (sym (c.in_ok-push_cell.ensures ∙ ap (λ z. cells ++ cell_above (Node.kind z) place) a))
    (collects_on nodes c.args.from place cells c.loop-steps.invariant (λ e. c.if-place-eq0.false e)))
