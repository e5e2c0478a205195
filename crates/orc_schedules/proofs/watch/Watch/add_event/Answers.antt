use Rattle.std.proofs.Common.{◌++◌}
use Rattle.orc_schedules.proofs.WatchingNames.{name_taken, seen_taken}
use Rattle.orc_schedules.proofs.watch.Watch.add_event.Goals as goal

pub loop-rest-preserved : goal.loop-rest-preserved
loop-rest-preserved c = record {
  names = name_taken c.loop-rest.self.names c.add.new.self.names c.loop-rest.rest.now (c.args.self.now.names ++ c.args.event.now.alternatives.items) c.name-item.result c.in-len1-up.len_at_least c.name-item.is c.in_ok-add-in-len1-up.ensures.names c.loop-rest.invariant.names;
  seen = seen_taken c.loop-rest.self.names c.add.new.self.names c.loop-rest.rest.now (c.args.self.now.names ++ c.args.event.now.alternatives.items) c.name-item.result c.in-len1-up.len_at_least c.name-item.is c.in_ok-add-in-len1-up.ensures.seen c.loop-rest.invariant.seen;
}
