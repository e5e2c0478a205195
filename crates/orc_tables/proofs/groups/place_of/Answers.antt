use Rattle.std.proofs.Common.{◌≡◌, Some, None, sym, ap, ◌∙◌}
use Rattle.std.specs.Prelude.{slice_get}
use Rattle.orc_tables.specs.declared.records.Group.{Group}
use Rattle.orc_tables.proofs.Placed.{same_some}
use Rattle.orc_tables.proofs.Leading.{none-leads, other-leads}
use Rattle.orc_tables.proofs.groups.place_of.Goals as goal

pub returns-in_err-place : goal.returns-in_err-place
returns-in_err-place c = rw c.from_residual.ensures (record { found = none-leads c.args.items.now.items c.args.places.now.items c.args.number c.requires.lead (sym c.in_err-place.ensures) })

pub returns-in_err-group : goal.returns-in_err-group
returns-in_err-group c =
    let items = c.args.items.now.items in
    let none : slice_get items c.in_ok-place.place ≡ None = sym c.in_err-group.ensures in
    rw c.from_residual-in_err-group.ensures (record { found = other-leads items c.args.places.now.items c.args.number c.in_ok-place.place c.requires.lead (sym c.in_ok-place.ensures) (λ g at is. cc (sym none ∙ at)) })

pub returns-else-group-number : goal.returns-else-group-number
returns-else-group-number c =
    let items = c.args.items.now.items in
    let it = c.in_ok-group.group in
    let at : slice_get items c.in_ok-place.place ≡ Some it = sym c.in_ok-group.ensures in
    record { found = other-leads items c.args.places.now.items c.args.number c.in_ok-place.place c.requires.lead (sym c.in_ok-place.ensures) (λ g there is. c.if-group-number.false (ap (λ (z : Group). z.number) (same_some it g (sym at ∙ there)) ∙ is)) }
