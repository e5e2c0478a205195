-- What is kept so far, with what is left, is all.
use Rattle.std.proofs.Common.{◌≡◌, ◌++◌, length}
use Rattle.orc_schedules.specs.Watch.{NameSame, all_seen}
use Rattle.orc_schedules.proofs.watch.Watch.add_event.Given as goal

abbrev pub decreases-loop-rest : goal.decreases-loop-rest
decreases-loop-rest l = length l.rest

abbrev pub invariant-loop-rest : goal.invariant-loop-rest
invariant-loop-rest l = record {
  names : NameSame (l.self.names ++ l.rest) (l.fn.self.names ++ l.fn.event.alternatives.items);
  seen : all_seen (l.self.names ++ l.rest) ≡ all_seen (l.fn.self.names ++ l.fn.event.alternatives.items);
}
