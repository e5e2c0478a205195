-- What is left names it where the whole does.
use Rattle.std.proofs.Common.{◌≡◌, length}
use Rattle.orc_schedules.specs.Watch.{is_named}
use Rattle.orc_schedules.proofs.watch.Watch.names.Given as goal

abbrev pub decreases-loop-rest : goal.decreases-loop-rest
decreases-loop-rest l = length l.rest

abbrev pub invariant-loop-rest : goal.invariant-loop-rest
invariant-loop-rest l = is_named l.rest l.what ≡ is_named l.fn.self.names l.fn.what
