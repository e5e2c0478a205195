use Rattle.std.proofs.Common.{◌++◌}
use Rattle.orc_schedules.specs.Watch.{watched_conditions}
use Rattle.orc_schedules.proofs.WatchingNames.{condition_taken, seen_condition_taken}
use Rattle.orc_schedules.proofs.watch.Watch.add_conditions.Goals as goal

pub loop-rest-preserved : goal.loop-rest-preserved
loop-rest-preserved c = record {
  names = condition_taken c.loop-rest.self.names c.add_event.new.self.names (c.args.self.now.names ++ watched_conditions c.args.conditions.now) c.loop-rest.rest.now c.condition-item.result c.in-len1-up.len_at_least c.condition-item.is c.in_ok-add_event-in-len1-up.ensures.names c.loop-rest.invariant.names;
  seen = seen_condition_taken c.loop-rest.self.names c.add_event.new.self.names (c.args.self.now.names ++ watched_conditions c.args.conditions.now) c.loop-rest.rest.now c.condition-item.result c.in-len1-up.len_at_least c.condition-item.is c.in_ok-add_event-in-len1-up.ensures.seen c.loop-rest.invariant.seen;
}
