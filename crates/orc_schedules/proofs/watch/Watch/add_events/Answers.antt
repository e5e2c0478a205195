use Rattle.orc_schedules.proofs.WatchingNames.{both_on, seen_both_on}
use Rattle.orc_schedules.proofs.watch.Watch.add_events.Goals as goal

pub returns-clause-names : goal.returns-clause-names
returns-clause-names c = both_on c.args.self.now.names c.add_event.new.self.names c.add_event-2.new.self.names c.args.event.now.alternatives.items c.args.other.now.alternatives.items c.in_ok-add_event.ensures.names c.in_ok-add_event-2.ensures.names

pub returns-clause-seen : goal.returns-clause-seen
returns-clause-seen c = seen_both_on c.args.self.now.names c.add_event.new.self.names c.add_event-2.new.self.names c.args.event.now.alternatives.items c.args.other.now.alternatives.items c.in_ok-add_event.ensures.seen c.in_ok-add_event-2.ensures.seen
