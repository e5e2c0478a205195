use Rattle.std.proofs.Common.{◌^◌}
use Rattle.std.specs.VecDeque.{deque_len}
use Rattle.orc_scheduler.proofs.Stopping.{nearer-end}
use Rattle.orc_engine.proofs.alone.play.Goals as goal

pub loop-stop-smaller : goal.loop-stop-smaller
loop-stop-smaller g c = nearer-end (2 ^ 64) c.loop-stop.scheduler.ledger c.go.new.self.ledger (deque_len c.loop-stop.scheduler.ready.handles) (deque_len c.go.new.self.ready.handles) c.in_default-go.ensures.nearer c.go.ensures.within c.go.ensures.few
