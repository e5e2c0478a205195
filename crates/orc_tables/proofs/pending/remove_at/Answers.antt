use Rattle.std.proofs.Common.{◌≡◌, ◌<◌, ◌-◌, Some, None, refl, sym, ap, ◌∙◌, subst, arith, length, get_or, length-set}
use Rattle.std.specs.Prelude.{slice_get, slice_set}
use Rattle.std.specs.List.{swap_remove}
use Rattle.orc_rules.specs.Timed.{IsIn}
use Rattle.orc_indexes.specs.Same.{weight}
use Rattle.orc_tables.specs.PendingCalls.{ArePlaced}
use Rattle.orc_indexes.proofs.Weight.{weight-swap_remove}
use Rattle.orc_tables.proofs.Placed.{or-got, removed-in, removed-other, removed-before, placed-last, placed-moved, moved-number}
use Rattle.orc_tables.proofs.pending.remove_at.Goals as goal

pub set_place-requires : goal.set_place-requires
set_place-requires c =
    let items = c.args.items.now.items in
    let i = c.args.place in
    let d = c.swap_remove-call.result in
    let there : i < length items = omega (arith, c.requires.there, c.args.items.now.ok.0) in
    moved-number items c.args.places.now.items i d c.requires.placed there c.in-Some.moved (subst (λ z. slice_get z i ≡ Some c.in-Some.moved) c.swap_remove-call.ensures.items c.in-Some.ensures.there)

pub returns-in-None : goal.returns-in-None
returns-in-None c =
    let items = c.args.items.now.items in
    let places = c.args.places.now.items in
    let i = c.args.place in
    let d = c.swap_remove-call.result in
    let there : i < length items = omega (arith, c.requires.there, c.args.items.now.ok.0) in
    let value : d ≡ get_or items i d = c.swap_remove-call.ensures.value in
    let new : c.swap_remove-call.new.self.items ≡ swap_remove items i d = c.swap_remove-call.ensures.items in
    let is : slice_get items i ≡ Some d = or-got items i d there ∙ ap Some (sym value) in
    record {
      call = is;
      len = c.swap_remove-call.ensures.len;
      before = λ k e lt h. removed-before items i d k e there lt (subst (λ z. slice_get z k ≡ Some e) new h);
      placed = subst (λ z. ArePlaced z places) (sym new) (placed-last items places i d c.requires.placed there (subst (λ z. slice_get z i ≡ None) new c.in-None.ensures.none));
      made = refl;
      rest = λ w. omega (arith, ap (weight w) new, weight-swap_remove w items i d there, ap w value);
      others = λ e h. let h' = subst (λ z. IsIn e z) new h in (removed-in items places i d c.requires.placed there e h', removed-other items places i d c.requires.placed there d is e h');
    }

pub returns-in-Some : goal.returns-in-Some
returns-in-Some c =
    let items = c.args.items.now.items in
    let places = c.args.places.now.items in
    let i = c.args.place in
    let d = c.swap_remove-call.result in
    let there : i < length items = omega (arith, c.requires.there, c.args.items.now.ok.0) in
    let value : d ≡ get_or items i d = c.swap_remove-call.ensures.value in
    let new : c.swap_remove-call.new.self.items ≡ swap_remove items i d = c.swap_remove-call.ensures.items in
    let is : slice_get items i ≡ Some d = or-got items i d there ∙ ap Some (sym value) in
    let moved = c.in-Some.moved in
    let moves : slice_get (swap_remove items i d) i ≡ Some moved = subst (λ z. slice_get z i ≡ Some moved) new c.in-Some.ensures.there in
    let written : c.set_place.new.places.items ≡ slice_set places (moved.number - 1) i = c.set_place.ensures in
    record {
      call = is;
      len = c.swap_remove-call.ensures.len;
      before = λ k e lt h. removed-before items i d k e there lt (subst (λ z. slice_get z k ≡ Some e) new h);
      placed = subst (λ z. ArePlaced z c.set_place.new.places.items) (sym new) (subst (λ z. ArePlaced (swap_remove items i d) z) (sym written) (placed-moved items places i d c.requires.placed there moved moves));
      made = ap length written ∙ length-set places (moved.number - 1) i;
      rest = λ w. omega (arith, ap (weight w) new, weight-swap_remove w items i d there, ap w value);
      others = λ e h. let h' = subst (λ z. IsIn e z) new h in (removed-in items places i d c.requires.placed there e h', removed-other items places i d c.requires.placed there d is e h');
    }
