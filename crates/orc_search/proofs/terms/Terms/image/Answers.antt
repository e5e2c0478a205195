use Rattle.std.proofs.Common.{ℕ, List, false, subst}
use Rattle.orc_search.specs.declared.node.Node.{Node}
use Rattle.orc_search.specs.Changes.{IsPart}
use Rattle.orc_search.specs.Nodes.{smalls}
use Rattle.orc_search.proofs.Changes.{image_there}
use Rattle.orc_search.proofs.terms.Terms.image.Goals as goal

pub returns-in-Some : goal.returns-in-Some
returns-in-Some c =
    let to : ℕ = c.in-Some.to in
    subst (λ (ns : List Node). IsPart (smalls ns) c.args.change false c.args.at to) c.self.view_is (image_there (smalls c.self.inside.nodes.items) c.self.inside.images c.args.change c.args.at to c.self.invariant.2 c.in-Some.ensures)
