use Rattle.std.proofs.Common.{◌≡◌, take}
use Rattle.orc_schedules.proofs.counts.in_place.Given as goal

abbrev pub invariant-loop-arg : goal.invariant-loop-arg
invariant-loop-arg l = l.placed ≡ take l.arg-index l.args
