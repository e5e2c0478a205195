use Rattle.std.proofs.Common.{subst}
use Rattle.orc_rules.specs.Nodes.{code}
use Rattle.orc_checker.specs.Checker.{State}
use Rattle.orc_checker.specs.Labelling.{AreAround}
use Rattle.orc_checker.proofs.Labelling.{stands_inside}
use Rattle.orc_checker.proofs.marked.Marked.cells_of.Goals as goal

pub returns-in-Ok : goal.returns-in-Ok
returns-in-Ok c x l p sp =
    let h = c.in_ok-holder.holder in
    stands_inside x (code l) c.args.self.now p h.at h.parent c.args.s h.tip c.in-Ok.cells.items sp c.in_ok-holder.ensures.there c.in_ok-holder.ensures.carries
    (subst (λ (z : State). AreAround z.nodes h.at c.in-Ok.cells.items) c.self.view_is c.in-Ok.ensures)
