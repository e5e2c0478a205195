use Rattle.std.proofs.Common.{sym, subst}
use Rattle.orc_term.specs.Hints.{Stock, AreHints, CanWake}
use Rattle.orc_term.specs.Asking.{AreNoted}
use Rattle.orc_term.proofs.Hints.{hints_written}
use Rattle.orc_term.specs.Ranks.{AreKept}
use Rattle.orc_term.proofs.nodes.Nodes.wake.Goals as goal

pub invariant_of-self : goal.invariant_of-self
invariant_of-self c =
    let n = c.self.inside in
    let can = subst (λ (z : Stock). CanWake z.items c.args.i c.args.node) (sym c.self.view_is) c.requires.node in (
      subst (λ z. AreHints z n.hints.items) (sym c.set_item.ensures.items) (hints_written n.items.items n.hints.items c.args.i c.args.node can c.self.invariant.0),
      subst (λ z. AreNoted z c.wake.new.self) (sym c.set_item.ensures.items) (c.wake.ensures.noted n.items.items c.args.node c.self.invariant.1),
      subst (λ z. AreKept z c.write.new.self) (sym c.set_item.ensures.items) (c.write.ensures can c.self.invariant.2),
    )
