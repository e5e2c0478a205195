use Rattle.std.proofs.Common.{sym, ◌∙◌, subst}
use Rattle.orc_rules.specs.Timed.{IsIn}
use Rattle.orc_tables.specs.OpenGroups.{GroupTable}
use Rattle.orc_tables.proofs.Placed.{in-got_at, got-in}
use Rattle.orc_tables.proofs.groups.Groups.get.Goals as goal

pub returns-in_err-place : goal.returns-in_err-place
returns-in_err-place c =
    let b = c.self.inside in
    rw c.from_residual.ensures (λ g i is. let at = in-got_at b.items.items g (subst (λ (t : GroupTable). IsIn g t.items) (sym c.self.view_is) i) in c.in_err-place.ensures.found at.0 g at.1 is)

pub returns : goal.returns
returns c =
    let b = c.self.inside in
    let d = c.in_ok-place.ensures.found in
    rw (c.group_in.ensures ∙ d.1) (subst (λ (t : GroupTable). IsIn d.0 t.items) c.self.view_is (got-in b.items.items c.in_ok-place.place d.0 d.1), d.2)
