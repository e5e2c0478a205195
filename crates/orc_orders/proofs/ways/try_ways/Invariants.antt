-- It was told of the ways so far.
use Rattle.std.proofs.Common.{◌≡◌, ◌≤◌, ◌+◌, ◌-◌, length, take}
use Rattle.orc_orders.specs.Trials.{texts, Adds}
use Rattle.orc_orders.proofs.ways.try_ways.Given as goal

abbrev pub invariant-loop-next : goal.invariant-loop-next
invariant-loop-next g l = Adds l.trials (texts (take l.next l.scripts)) l.fn.told l.told × (l.told.ways ≡ l.fn.told.ways + l.next) × (l.next ≤ length l.scripts) × (1 ≤ l.number) × (1 ≤ l.threads)

abbrev pub decreases-loop-next : goal.decreases-loop-next
decreases-loop-next g l = length l.scripts - l.next
