use Rattle.std.proofs.Common.{◌≡◌, ◌++◌, map, take}
use Rattle.orc_schedules.specs.Counts.{count_of}
use Rattle.orc_schedules.proofs.counts.push_copies.Given as goal

abbrev pub invariant-loop-calls : goal.invariant-loop-calls
invariant-loop-calls l = map count_of l.list.items ≡ map count_of l.fn.list.items ++ map count_of (take l.calls-index l.made)
