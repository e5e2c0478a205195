-- The run is further, or as far, and no more turns come.
use Rattle.std.specs.VecDeque.{deque_len}
use Rattle.orc_scheduler.specs.Stops.{HasSpread}
use Rattle.orc_scheduler.proofs.scheduler.Scheduler.spread_once.Given as goal

abbrev pub invariant-loop-token : goal.invariant-loop-token
invariant-loop-token g l = HasSpread l.fn.self.ledger (deque_len l.fn.self.ready.handles) l.self.ledger (deque_len l.self.ready.handles)
