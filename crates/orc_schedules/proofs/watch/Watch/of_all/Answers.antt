use Rattle.std.proofs.Common.{ap, ◌∙◌}
use Rattle.orc_schedules.specs.Watch.{Watched, all_seen, is_named, watched_plain}
use Rattle.orc_schedules.proofs.WatchingNames.{all_are_seen, all_named}
use Rattle.orc_schedules.proofs.watch.Watch.of_all.Goals as goal

pub returns-clause-names : goal.returns-clause-names
returns-clause-names c =
    let all = all_named c.nothing-watch.result.names c.add_plain.new.self.names c.add_conditions.new.self.names (watched_plain c.args.claim.now.plain) c.args.claim.now.conditions.items c.as_slice.result.now c.nothing-watch.ensures c.as_slice.ensures.value
    c.in_ok-add_plain.ensures.names c.in_ok-add_conditions.ensures.names in
    λ w. ap (λ (v : Watched). is_named v.names w) c.tell_until.ensures ∙ all w

pub returns-clause-seen : goal.returns-clause-seen
returns-clause-seen c =
    ap (λ (v : Watched). all_seen v.names) c.tell_until.ensures
    ∙ all_are_seen c.nothing-watch.result.names c.add_plain.new.self.names c.add_conditions.new.self.names (watched_plain c.args.claim.now.plain) c.args.claim.now.conditions.items c.as_slice.result.now c.nothing-watch.ensures c.as_slice.ensures.value
    c.in_ok-add_plain.ensures.seen c.in_ok-add_conditions.ensures.seen
