-- The run is further, or as far, and no more turns come.
use Rattle.std.specs.VecDeque.{deque_len}
use Rattle.orc_scheduler.specs.Stops.{HasSpread}
use Rattle.orc_engine.proofs.parallel.ParallelRun.run_batches.Given as goal

abbrev pub invariant-loop-from : goal.invariant-loop-from
invariant-loop-from g l = HasSpread l.fn.scheduler.ledger (deque_len l.fn.scheduler.ready.handles) l.scheduler.ledger (deque_len l.scheduler.ready.handles)
