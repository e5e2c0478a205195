use Rattle.std.proofs.Common.{◌≡◌, take}
use Rattle.orc_graph.proofs.graph.lists_of.Given as goal

abbrev pub invariant-loop-list : goal.invariant-loop-list
invariant-loop-list l = l.lists ≡ take l.list l.program.lists
