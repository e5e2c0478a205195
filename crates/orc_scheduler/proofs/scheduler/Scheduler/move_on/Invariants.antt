-- The run is further, or the token hasn't moved yet; and the token is in its slot.
use Rattle.std.proofs.Common.{◌≡◌, ◌≤◌, ◌⊎◌}
use Rattle.std.specs.VecDeque.{deque_len}
use Rattle.orc_tables.specs.Tokens.{IsHeld}
use Rattle.orc_scheduler.specs.Stops.{Advances}
use Rattle.orc_scheduler.proofs.scheduler.Scheduler.move_on.Given as goal

abbrev pub invariant-loop-moved : goal.invariant-loop-moved
invariant-loop-moved g l = (Advances l.fn.self.ledger l.self.ledger ⊎ ((l.self.ledger ≡ l.fn.self.ledger) × (deque_len l.self.ready.handles ≤ deque_len l.fn.self.ready.handles) × (l.moved ≡ 0))) × IsHeld l.self.ledger.slots l.slot l.token
