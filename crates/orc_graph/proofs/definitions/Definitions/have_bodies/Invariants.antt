use Rattle.std.proofs.Common.{◌<◌, take}
use Rattle.std.specs.List.{AllByRecursion}
use Rattle.orc_graph.proofs.definitions.Definitions.have_bodies.Given as goal

abbrev pub invariant-loop-body : goal.invariant-loop-body
invariant-loop-body l = AllByRecursion (λ b. b.node < l.nodes) (take l.body-index l.body-items)
