use Rattle.std.proofs.Common.{◌++◌, List, sym, ap, ◌∙◌}
use Rattle.std.specs.Prelude.{reverse}
use Rattle.orc_rules.specs.declared.value.Value.{Value}
use Rattle.orc_schedules.specs.declared.lists.Longer.{Longer}
use Rattle.orc_schedules.specs.Lists.{list_at, lists}
use Rattle.orc_schedules.specs.Seen.{values_of}
use Rattle.orc_schedules.proofs.Longer.{further_value}
use Rattle.orc_schedules.proofs.lists.Lists.values.Goals as goal

pub loop-longer-preserved : goal.loop-longer-preserved
loop-longer-preserved c =
    let ls = lists c.args.self.now in
    let x : Longer = c.in-Some.longer in
    let values = c.loop-longer.values.items in
    further_value c.args.self.now.calls ls c.args.at c.loop-longer.rest x values c.loop-longer.invariant (c.in-Some.ensures.some.1) ∙ ap (λ (vs : List Value). values_of (list_at ls x.before) ++ reverse vs) (sym c.in_ok-push_value.ensures)
