-- What may come yet, in entries and groups, and then in turns.
use Rattle.std.proofs.Common.{◌+◌, ◌*◌, ◌^◌}
use Rattle.std.specs.VecDeque.{deque_len}
use Rattle.orc_scheduler.specs.Stops.{left}
use Rattle.orc_scheduler.proofs.sub_runs.run_until_cut.Given as goal

abbrev pub decreases-loop : goal.decreases-loop
decreases-loop g l = 2 ^ 64 * left l.scheduler.ledger + deque_len l.scheduler.ready.handles
