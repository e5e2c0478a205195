use Rattle.std.specs.VecDeque.{deque_len}
use Rattle.orc_scheduler.proofs.Stopping.{spread-on}
use Rattle.orc_engine.proofs.parallel.take_all.Goals as goal

pub loop-job-preserved : goal.loop-job-preserved
loop-job-preserved g c =
    spread-on c.args.scheduler.now.ledger c.loop-job.scheduler.ledger c.take_one.new.scheduler.ledger (deque_len c.args.scheduler.now.ready.handles) (deque_len c.loop-job.scheduler.ready.handles) (deque_len c.take_one.new.scheduler.ready.handles) c.loop-job.invariant c.in_ok-take_one.ensures.spread
