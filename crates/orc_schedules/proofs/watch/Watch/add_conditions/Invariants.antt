-- What is kept so far, with what is left, is all.
use Rattle.std.proofs.Common.{◌≡◌, ◌++◌, length}
use Rattle.orc_schedules.specs.Watch.{NameSame, all_seen, watched_conditions}
use Rattle.orc_schedules.proofs.watch.Watch.add_conditions.Given as goal

abbrev pub decreases-loop-rest : goal.decreases-loop-rest
decreases-loop-rest l = length l.rest

abbrev pub invariant-loop-rest : goal.invariant-loop-rest
invariant-loop-rest l = record {
  names : NameSame (l.self.names ++ watched_conditions l.rest) (l.fn.self.names ++ watched_conditions l.fn.conditions);
  seen : all_seen (l.self.names ++ watched_conditions l.rest) ≡ all_seen (l.fn.self.names ++ watched_conditions l.fn.conditions);
}
