-- The run is further, or nothing has happened yet.
use Rattle.std.proofs.Common.{◌≡◌, ◌⊎◌}
use Rattle.orc_scheduler.specs.Stops.{Advances}
use Rattle.orc_scheduler.proofs.scheduler.Scheduler.close_from.Given as goal

abbrev pub invariant-loop-nested : goal.invariant-loop-nested
invariant-loop-nested g l = Advances l.fn.self.ledger l.self.ledger ⊎ ((l.self.ledger ≡ l.fn.self.ledger) × (l.number ≡ l.fn.group) × (l._nested ≡ 0))
