use Rattle.std.proofs.Common.{◌≡◌, ◌∙◌, ap, sym, subst, get_or}
use Rattle.std.specs.Prelude.{slice_set}
use Rattle.orc_term.specs.declared.arena.Node.{Node}
use Rattle.orc_term.specs.Rising.{nowhere}
use Rattle.orc_term.specs.Grafting.{relink}
use Rattle.orc_term.specs.Hints.{Stock, AreHints, IsBeside, lifted}
use Rattle.orc_term.specs.Asking.{AreNoted}
use Rattle.orc_term.proofs.Hints.{hints_lifted}
use Rattle.orc_term.proofs.Asking.{noted_lifted}
use Rattle.orc_term.proofs.Trees.{node}
use Rattle.orc_term.proofs.nodes.Nodes.lift.Goals as goal

pub invariant_of-self : goal.invariant_of-self
invariant_of-self c =
    let n = c.self.inside in
    let nodes = n.items.items in
    let i = c.args.i in
    let x = c.item-node.ensures in
    let below = c.set_item.ensures.items ∙ ap (λ (z : Node). slice_set nodes i (node z.kind c.args.both)) x in
    let y = c.item-above.ensures ∙ (λ j. get_or (below j) (Node.parent (x j)) nowhere) in
    let is : c.set_item-2.new.items.items ≡ lifted nodes i c.args.both =
    c.set_item-2.ensures.items ∙ (λ j. slice_set (below j) (Node.parent (x j)) (node ((c.relinked.ensures ∙ ap (λ (z : Node). relink z.kind i c.args.both) y) j) (Node.parent (y j)))) in (
      subst (λ z. AreHints z n.hints.items) (sym is) (hints_lifted nodes n.hints.items i c.args.both (subst (λ (z : Stock). IsBeside z.items i c.args.both) (sym c.self.view_is) c.requires) c.self.invariant.0),
      subst (λ z. AreNoted z n.restless) (sym is) (noted_lifted nodes i c.args.both n.restless c.self.invariant.1),
      c.lift.ensures nodes (ap Node.parent x) is c.self.invariant.2,
    )
