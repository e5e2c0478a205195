-- What is left sees no cancel where the whole does.
use Rattle.std.proofs.Common.{◌≡◌, length}
use Rattle.orc_schedules.specs.Watch.{all_seen}
use Rattle.orc_schedules.proofs.watch.all_seen.Given as goal

abbrev pub decreases-loop-rest : goal.decreases-loop-rest
decreases-loop-rest l = length l.rest

abbrev pub invariant-loop-rest : goal.invariant-loop-rest
invariant-loop-rest l = all_seen l.rest ≡ all_seen l.fn.names
