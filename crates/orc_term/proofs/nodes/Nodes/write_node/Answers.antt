use Rattle.std.proofs.Common.{sym, subst}
use Rattle.orc_term.specs.Hints.{Stock, AreHints, CanBecome}
use Rattle.orc_term.specs.Asking.{AreNoted}
use Rattle.orc_term.proofs.Hints.{hints_written}
use Rattle.orc_term.proofs.Asking.{noted_written}
use Rattle.orc_term.specs.Ranks.{AreKept}
use Rattle.orc_term.proofs.nodes.Nodes.write_node.Goals as goal

pub invariant_of-self : goal.invariant_of-self
invariant_of-self c =
    let n = c.self.inside in
    let can = subst (λ (z : Stock). CanBecome z.items c.args.i c.args.node) (sym c.self.view_is) c.requires in (
      subst (λ z. AreHints z n.hints.items) (sym c.set_item.ensures.items) (hints_written n.items.items n.hints.items c.args.i c.args.node (λ x e. (can x e).0) c.self.invariant.0),
      subst (λ z. AreNoted z n.restless) (sym c.set_item.ensures.items) (noted_written n.items.items c.args.i c.args.node n.restless can c.self.invariant.1),
      subst (λ z. AreKept z c.write.new.self) (sym c.set_item.ensures.items) (c.write.ensures (λ x e. (can x e).0) c.self.invariant.2),
    )
