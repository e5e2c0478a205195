use Rattle.std.proofs.Common.{◌<◌, ◌∙◌, subst, arith}
use Rattle.std.specs.List.{AllByRecursion}
use Rattle.std.proofs.lemmas.List.{take_all}
use Rattle.orc_graph.specs.declared.definitions.Body.{Body}
use Rattle.orc_graph.specs.Called.{HasBody}
use Rattle.orc_graph.proofs.Called.{have_bodies}
use Rattle.orc_graph.proofs.definitions.Definitions.have_bodies.Goals as goal

pub returns : goal.returns
returns c =
    let items = c.deref-body-items.result.now in
    let all : AllByRecursion (λ (b : Body). b.node < c.args.nodes) c.self.inside.bodies.items =
    subst (AllByRecursion (λ (b : Body). b.node < c.args.nodes)) (take_all c.loop-body.body-index items (omega arith) ∙ c.deref-body-items.ensures.value) c.loop-body.invariant in
    λ _. subst (AllByRecursion (HasBody c.args.nodes)) c.self.view_is (have_bodies c.args.nodes c.self.inside.names.items c.self.inside.bodies.items all)
