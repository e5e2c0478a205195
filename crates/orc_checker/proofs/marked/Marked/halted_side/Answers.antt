use Rattle.std.proofs.Common.{None, Some, ap, get_or, sym, subst, ◌∙◌}
use Rattle.orc_term.specs.declared.arena.Node.{Node}
use Rattle.orc_checker.specs.Checker.{State}
use Rattle.orc_checker.specs.Over.{side_of, FindsSide}
use Rattle.orc_term.specs.Rising.{nowhere}
use Rattle.orc_term.specs.Settling.{kind_at, parent_at}
use Rattle.orc_term.specs.Sides.{HasEnded}
use Rattle.orc_checker.proofs.Halted.{none_found, side_found}
use Rattle.orc_checker.proofs.marked.Marked.halted_side.Goals as goal

pub returns-in_default-clause-side : goal.returns-in_default-clause-side
returns-in_default-clause-side c x l p sp =
    none_found x l c.args.self.now p sp (subst (λ (z : State). HasEnded z.nodes z.flags None) c.self.view_is (subst (HasEnded c.self.inside.nodes.items c.self.inside.flags.items) c.in_default.is c.ended_side.ensures.ends))

pub returns-clause-side : goal.returns-clause-side
returns-clause-side c x l p sp =
    let j = c.in-Some.place in
    let n = c.self.inside in
    let ends = subst (HasEnded n.nodes.items n.flags.items) c.in-Some.is c.ended_side.ensures.ends in
    let above = c.node_at.ensures ∙ ap (λ (z : Node). get_or n.nodes.items z.parent nowhere) c.node_at-parent.ensures in
    subst (FindsSide p) (sym (c.side_of.ensures ∙ ap (λ (z : Node). side_of z.kind j) above ∙ ap (λ (z : State). side_of (kind_at z.nodes (parent_at z.nodes j)) j) c.self.view_is))
    (side_found x l c.args.self.now p sp j (subst (λ (z : State). HasEnded z.nodes z.flags (Some j)) c.self.view_is ends))
