-- It was told of the ways so far.
use Rattle.std.proofs.Common.{◌≡◌, ◌+◌, take}
use Rattle.orc_orders.specs.Trials.{texts, Adds}
use Rattle.orc_orders.proofs.ways.Batch.tell.Given as goal

abbrev pub invariant-loop-at : goal.invariant-loop-at
invariant-loop-at g l = Adds l.self.trials.now (texts (take l.at l.self.scripts.now)) l.fn.told l.told × (l.told.ways ≡ l.fn.told.ways + l.at)
