use Rattle.std.proofs.Common.{◌≡◌, Some, sym, ap, ◌∙◌, subst, arith}
use Rattle.std.specs.Prelude.{slice_get}
use Rattle.orc_rules.specs.Timed.{IsIn}
use Rattle.orc_tables.specs.OpenGroups.{GroupTable}
use Rattle.orc_tables.specs.declared.records.Group.{Group}
use Rattle.orc_tables.proofs.Placed.{same_some, in-got_at, got-in, got-within}
use Rattle.orc_tables.proofs.Leading.{one-named}
use Rattle.orc_tables.proofs.groups.Groups.take.Goals as goal

pub returns-in_err-place-clause-group : goal.returns-in_err-place-clause-group
returns-in_err-place-clause-group c =
    let b = c.self.inside in
    rw c.from_residual.ensures (λ g i is. let at = in-got_at b.items.items g (subst (λ (t : GroupTable). IsIn g t.items) (sym c.self.view_is) i) in c.in_err-place.ensures.found at.0 g at.1 is)

pub returns-in_err-place-clause-one : goal.returns-in_err-place-clause-one
returns-in_err-place-clause-one c = λ g i is w.
    let b = c.self.inside in
    let at = in-got_at b.items.items g (subst (λ (t : GroupTable). IsIn g t.items) (sym c.self.view_is) i) in
    absurd (c.in_err-place.ensures.found at.0 g at.1 is)

pub remove-requires : goal.remove-requires
remove-requires c =
    let d = c.in_ok-place.ensures.found in
    record { there = got-within c.args.self.now.items c.in_ok-place.place d.0 (subst (λ (t : GroupTable). slice_get t.items c.in_ok-place.place ≡ Some d.0) c.self.view_is d.1) }

pub returns-clause-group : goal.returns-clause-group
returns-clause-group c =
    let d = c.in_ok-place.ensures.found in
    let now = c.args.self.now.items in
    let at : slice_get now c.in_ok-place.place ≡ Some d.0 = subst (λ (t : GroupTable). slice_get t.items c.in_ok-place.place ≡ Some d.0) c.self.view_is d.1 in
    let same : d.0 ≡ c.remove.result = same_some d.0 c.remove.result (sym at ∙ c.remove.ensures.is) in
    (got-in now c.in_ok-place.place c.remove.result c.remove.ensures.is, ap (λ (z : Group). z.number) (sym same) ∙ d.2)

pub returns-clause-one : goal.returns-clause-one
returns-clause-one c = λ g i is w.
    let b = c.self.inside in
    let d = c.in_ok-place.ensures.found in
    let now = c.args.self.now.items in
    let at : slice_get now c.in_ok-place.place ≡ Some d.0 = subst (λ (t : GroupTable). slice_get t.items c.in_ok-place.place ≡ Some d.0) c.self.view_is d.1 in
    let same : d.0 ≡ c.remove.result = same_some d.0 c.remove.result (sym at ∙ c.remove.ensures.is) in
    let mine : g ≡ d.0 = one-named b.items.items b.places.items c.in_ok-place.place g d.0 c.self.invariant.0.lead (subst (λ (t : GroupTable). IsIn g t.items) (sym c.self.view_is) i) d.1 (is ∙ sym d.2) in
    omega (arith, c.remove.ensures.rest w, ap w (mine ∙ same))
