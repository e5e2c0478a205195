use Rattle.std.proofs.Common.{length, arith, ap}
use Rattle.orc_schedules.specs.Lists.{Linked}
use Rattle.orc_schedules.proofs.Longer.{lists_len}
use Rattle.orc_schedules.proofs.lists.Lists.len.Goals as goal

pub returns : goal.returns
returns c =
    let len = c.self.inside.longer.ok.0 in
    let view = ap (λ (l : Linked). length l.longer) c.self.view_is in
    omega (arith, c.len.ensures, len, view, lists_len c.args.self.now.calls c.args.self.now.longer)
