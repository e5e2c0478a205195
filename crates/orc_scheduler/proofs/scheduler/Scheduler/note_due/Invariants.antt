-- Calls were noted.
use Rattle.std.proofs.Common.{◌≡◌}
use Rattle.orc_scheduler.proofs.scheduler.Scheduler.note_due.Given as goal

abbrev pub invariant-loop : goal.invariant-loop
invariant-loop g l = l.self.ledger ≡ l.fn.self.ledger
