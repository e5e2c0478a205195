use Rattle.std.proofs.Common.{map, take}
use Rattle.std.specs.List.{AllByRecursion}
use Rattle.orc_graph.specs.Called.{HasList}
use Rattle.orc_graph.specs.Graph.{term_node}
use Rattle.orc_graph.proofs.graph.Graph.have_lists.Given as goal

abbrev pub invariant-loop-node : goal.invariant-loop-node
invariant-loop-node l = AllByRecursion (HasList l.lists) (map term_node (take l.node-index l.node-items))
