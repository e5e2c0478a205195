use Rattle.std.proofs.Common.{◌≤◌, length}
use Rattle.orc_term.proofs.Dropping.{Spreads}
use Rattle.orc_term.proofs.side.nodes_of.Given as goal

abbrev pub invariant-loop-next : goal.invariant-loop-next
invariant-loop-next l = Spreads l.nodes.items l.root l.found.items l.next × (l.next ≤ length l.found.items)
