use Rattle.std.proofs.Common.{◌≡◌, ◌≤◌, List, length, Some, subst}
use Rattle.std.specs.Prelude.{slice_get}
use Rattle.orc_search.specs.declared.node.Node.{Node}
use Rattle.orc_search.specs.Nodes.{smalls, small_of_node}
use Rattle.orc_search.proofs.Nodes.{node_term, none_term}
use Rattle.orc_search.proofs.terms.Terms.node.Goals as goal

pub returns-in-Some-clause-term : goal.returns-in-Some-clause-term
returns-in-Some-clause-term c =
    let n : Node = c.in-Some.node.now in
    subst (λ (ns : List Node). slice_get (smalls ns) c.args.at ≡ Some (small_of_node (smalls ns) n)) c.self.view_is (node_term c.self.inside.nodes.items c.args.at n c.self.invariant.0 c.in-Some.ensures.there)

pub returns-in-None-clause-none : goal.returns-in-None-clause-none
returns-in-None-clause-none c = subst (λ (ns : List Node). length ns ≤ c.args.at) c.self.view_is (none_term c.self.inside.nodes.items c.args.at c.in-None.ensures.none)
