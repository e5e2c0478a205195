use Rattle.std.proofs.Common.{◌≡◌, ◌++◌, List, sym, ap, ◌∙◌}
use Rattle.std.specs.Prelude.{reverse}
use Rattle.orc_claims.specs.declared.happening.Happening.{Happening}
use Rattle.orc_schedules.specs.declared.lists.Longer.{Longer}
use Rattle.orc_schedules.specs.Lists.{list_at, lists}
use Rattle.orc_schedules.specs.Seen.{Past}
use Rattle.orc_schedules.proofs.Longer.{further}
use Rattle.orc_schedules.proofs.lists.Lists.happened.Goals as goal

pub loop-longer-preserved : goal.loop-longer-preserved
loop-longer-preserved c =
    let ls = lists c.args.self.now in
    let x : Longer = c.in-Some.longer in
    let happened = c.loop-longer.happened.items in
    further c.args.self.now.calls ls c.args.at c.loop-longer.rest x happened c.loop-longer.invariant (c.in-Some.ensures.some.1) ∙ ap (λ (hs : List Happening). Past.happened (list_at ls x.before) ++ reverse hs) (sym c.in_ok-push.ensures)
