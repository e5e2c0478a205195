-- What may come yet, in entries and groups, and then in turns.
use Rattle.std.proofs.Common.{◌+◌, ◌*◌, ◌^◌}
use Rattle.std.specs.VecDeque.{deque_len}
use Rattle.orc_scheduler.specs.Stops.{left}
use Rattle.orc_engine.proofs.parallel.ParallelRun.play.Given as goal

abbrev pub decreases-loop-next : goal.decreases-loop-next
decreases-loop-next g l = 2 ^ 64 * left l.scheduler.ledger + deque_len l.scheduler.ready.handles
