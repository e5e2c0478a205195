-- The trials so far.
use Rattle.std.proofs.Common.{◌≤◌}
use Rattle.orc_orders.specs.Trying.{IsSoFar}
use Rattle.orc_orders.proofs.trials.try_way.Given as goal

abbrev pub invariant-loop-order : goal.invariant-loop-order
invariant-loop-order l = IsSoFar l.its.loaded.program l.its.loaded.answers l.its.sites.items l.trials.claims.now l.trials.limit l.way l.order l.told × (l.told.cut ≤ l.order)
