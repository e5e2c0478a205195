use Rattle.std.proofs.Common.{◌^◌}
use Rattle.std.specs.VecDeque.{deque_len}
use Rattle.orc_scheduler.proofs.Stopping.{nearer-end}
use Rattle.orc_engine.proofs.parallel.ParallelRun.play.Goals as goal

pub loop-next-smaller : goal.loop-next-smaller
loop-next-smaller g c = nearer-end (2 ^ 64) c.loop-next.scheduler.ledger c.go.new.scheduler.ledger (deque_len c.loop-next.scheduler.ready.handles) (deque_len c.go.new.scheduler.ready.handles) c.in-Ok.ensures.nearer c.in-Ok.ensures.within c.go.ensures.few
