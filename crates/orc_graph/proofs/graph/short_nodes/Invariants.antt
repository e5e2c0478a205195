use Rattle.std.proofs.Common.{◌≡◌, take, map}
use Rattle.orc_graph.specs.Graph.{term_node}
use Rattle.orc_graph.proofs.graph.short_nodes.Given as goal

abbrev pub invariant-loop-id : goal.invariant-loop-id
invariant-loop-id l = map term_node l.nodes.items ≡ take l.id l.program.nodes
