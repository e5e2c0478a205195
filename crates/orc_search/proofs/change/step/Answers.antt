use Rattle.std.proofs.Common.{Bool, arith, subst}
use Rattle.orc_search.specs.declared.node.Node.{Node}
use Rattle.orc_search.specs.declared.node.Node.TheVariants.{Pair}
use Rattle.orc_search.specs.Nodes.{smalls}
use Rattle.orc_search.specs.Changes.{left_stays, right_stays, IsPlan, IsPart}
use Rattle.orc_search.proofs.Nodes.{same_len}
use Rattle.orc_search.proofs.Changes.{part_there, pair_image}
use Rattle.orc_search.proofs.change.step.Goals as goal

pub number_of-requires-in-Pair : goal.number_of-requires-in-Pair
number_of-requires-in-Pair c =
    let terms = smalls c.args.terms.now in
    let plan : IsPlan terms c.args.change c.args.at (Pair c.in-Pair.joint c.in-Pair.f c.in-Pair.g) = subst (λ (n : Node). IsPlan terms c.args.change c.args.at n) c.in-Pair.is c.in_ok-tip.ensures in
    let len = same_len c.args.terms.now in
    let left = part_there terms c.args.change c.left_stays.result c.in-Pair.f c.in-Some.left (omega (arith, plan.0, plan.1)) c.in-Some.ensures in
    let right = part_there terms c.args.change c.right_stays.result c.in-Pair.g c.in-Some-part.right (omega (arith, plan.0, plan.2)) c.in-Some-part.ensures in
    (omega (arith, len, left), omega (arith, len, right))

pub returns-in_ok-to-in-Pair-clause-progress : goal.returns-in_ok-to-in-Pair-clause-progress
returns-in_ok-to-in-Pair-clause-progress c =
    let terms = smalls c.args.terms.now in
    let joint = c.in-Pair.joint in
    let plan : IsPlan terms c.args.change c.args.at (Pair joint c.in-Pair.f c.in-Pair.g) = subst (λ (n : Node). IsPlan terms c.args.change c.args.at n) c.in-Pair.is c.in_ok-tip.ensures in
    let left : IsPart terms c.args.change (left_stays c.args.change joint) c.in-Pair.f c.in-Some.left = subst (λ (b : Bool). IsPart terms c.args.change b c.in-Pair.f c.in-Some.left) c.left_stays.ensures c.in-Some.ensures in
    let right : IsPart terms c.args.change (right_stays c.args.change joint) c.in-Pair.g c.in-Some-part.right = subst (λ (b : Bool). IsPart terms c.args.change b c.in-Pair.g c.in-Some-part.right) c.right_stays.ensures c.in-Some-part.ensures in (
      plan.0,
      pair_image terms c.args.change (smalls c.number_of-in-Pair.new.self) joint c.args.at c.in-Pair.f c.in-Pair.g c.in-Some.left c.in-Some-part.right c.in_ok-to-in-Pair.to plan.3 left right c.in_ok-to-in-Pair.ensures.number,
    )
