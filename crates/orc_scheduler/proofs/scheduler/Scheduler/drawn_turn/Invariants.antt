-- Calls were drawn that aren't due.
use Rattle.std.proofs.Common.{◌≡◌, ◌≤◌}
use Rattle.std.specs.VecDeque.{deque_len}
use Rattle.orc_scheduler.proofs.scheduler.Scheduler.drawn_turn.Given as goal

abbrev pub invariant-loop : goal.invariant-loop
invariant-loop g l = (l.self.ledger ≡ l.fn.self.ledger) × (deque_len l.self.ready.handles ≤ deque_len l.fn.self.ready.handles)
