use Rattle.std.proofs.Common.{◌≡◌, length, map}
use Rattle.orc_schedules.specs.Counts.{count_of}
use Rattle.orc_schedules.proofs.counts.are_same_counts.Given as goal

abbrev pub decreases-loop-rest : goal.decreases-loop-rest
decreases-loop-rest l = length l.rest

abbrev pub invariant-loop-rest : goal.invariant-loop-rest
invariant-loop-rest l = map count_of l.rest ≡ map count_of l.others → map count_of l.fn.one ≡ map count_of l.fn.other
