use Rattle.std.proofs.Common.{List, sym, subst}
use Rattle.orc_search.specs.declared.node.Node.{Node}
use Rattle.orc_search.specs.Changes.{IsImage}
use Rattle.orc_search.specs.Nodes.{smalls}
use Rattle.orc_search.proofs.Changes.{more_images}
use Rattle.orc_search.proofs.terms.Terms.keep.Goals as goal

pub invariant_of-self : goal.invariant_of-self
invariant_of-self c =
    let nodes = c.self.inside.nodes.items in
    let is : IsImage (smalls nodes) c.args.image = subst (λ (ns : List Node). IsImage (smalls ns) c.args.image) (sym c.self.view_is) c.requires in
    (c.self.invariant.0, c.self.invariant.1, more_images (smalls nodes) c.self.inside.images c.push.new.self c.args.image c.self.invariant.2 is c.push.ensures)

pub invariant_of-self-2 : goal.invariant_of-self-2
invariant_of-self-2 c =
    let nodes = c.self.inside.nodes.items in
    let is : IsImage (smalls nodes) c.args.image = subst (λ (ns : List Node). IsImage (smalls ns) c.args.image) (sym c.self.view_is) c.requires in
    (c.self.invariant.0, c.self.invariant.1, more_images (smalls nodes) c.self.inside.images c.push.new.self c.args.image c.self.invariant.2 is c.push.ensures)
