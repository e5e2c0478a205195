use Rattle.std.proofs.Common.{◌≡◌, take}
use Rattle.orc_term.specs.Dropping.{calls_at}
use Rattle.orc_term.proofs.side.pending_at.Given as goal

abbrev pub invariant-loop-next : goal.invariant-loop-next
invariant-loop-next l = l.calls.items ≡ calls_at l.nodes.items (take l.next l.side.items)
