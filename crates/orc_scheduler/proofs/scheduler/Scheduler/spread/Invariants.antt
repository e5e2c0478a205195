-- The run is further, or as far, and no more turns come.
use Rattle.std.specs.VecDeque.{deque_len}
use Rattle.orc_scheduler.specs.Stops.{HasSpread}
use Rattle.orc_scheduler.proofs.scheduler.Scheduler.spread.Given as goal

abbrev pub invariant-loop-round : goal.invariant-loop-round
invariant-loop-round g l = HasSpread l.fn.self.ledger (deque_len l.fn.self.ready.handles) l.self.ledger (deque_len l.self.ready.handles)

abbrev pub invariant-loop-turn : goal.invariant-loop-turn
invariant-loop-turn g l = HasSpread l.fn.self.ledger (deque_len l.fn.self.ready.handles) l.self.ledger (deque_len l.self.ready.handles)
