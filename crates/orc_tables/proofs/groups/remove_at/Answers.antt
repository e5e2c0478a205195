use Rattle.std.proofs.Common.{◌≡◌, ◌<◌, Some, None, refl, sym, ap, ◌∙◌, subst, arith, length, get_or, length-set}
use Rattle.std.specs.Prelude.{slice_get, slice_set}
use Rattle.std.specs.List.{swap_remove}
use Rattle.orc_indexes.specs.Same.{weight}
use Rattle.orc_tables.specs.OpenGroups.{LeadTo}
use Rattle.orc_indexes.proofs.Weight.{weight-swap_remove}
use Rattle.orc_tables.proofs.Placed.{or-got}
use Rattle.orc_tables.proofs.Leading.{before-gone, lead-last, lead-moved}
use Rattle.orc_tables.proofs.groups.remove_at.Goals as goal

pub returns-in-None : goal.returns-in-None
returns-in-None c =
    let items = c.args.items.now.items in
    let places = c.args.places.now.items in
    let i = c.args.place in
    let d = c.swap_remove-group.result in
    let there : i < length items = omega (arith, c.requires.there, c.args.items.now.ok.0) in
    let value : d ≡ get_or items i d = c.swap_remove-group.ensures.value in
    let new : c.swap_remove-group.new.self.items ≡ swap_remove items i d = c.swap_remove-group.ensures.items in
    record {
      group = or-got items i d there ∙ ap Some (sym value);
      len = c.swap_remove-group.ensures.len;
      before = λ k g lt h. before-gone items i d k g there lt (subst (λ z. slice_get z k ≡ Some g) new h);
      lead = subst (λ z. LeadTo z places) (sym new) (lead-last items places i d c.requires.lead there (subst (λ z. slice_get z i ≡ None) new (sym c.in-None.ensures)));
      size = refl;
      rest = λ w. omega (arith, ap (weight w) new, weight-swap_remove w items i d there, ap w value);
    }

pub returns-in-Some : goal.returns-in-Some
returns-in-Some c =
    let items = c.args.items.now.items in
    let places = c.args.places.now.items in
    let i = c.args.place in
    let d = c.swap_remove-group.result in
    let there : i < length items = omega (arith, c.requires.there, c.args.items.now.ok.0) in
    let value : d ≡ get_or items i d = c.swap_remove-group.ensures.value in
    let new : c.swap_remove-group.new.self.items ≡ swap_remove items i d = c.swap_remove-group.ensures.items in
    let moved = c.in-Some.moved in
    let moves : slice_get (swap_remove items i d) i ≡ Some moved = subst (λ z. slice_get z i ≡ Some moved) new (sym c.in-Some.ensures) in
    let written : c.set_place.new.places.items ≡ slice_set places moved.number i = c.set_place.ensures in
    record {
      group = or-got items i d there ∙ ap Some (sym value);
      len = c.swap_remove-group.ensures.len;
      before = λ k g lt h. before-gone items i d k g there lt (subst (λ z. slice_get z k ≡ Some g) new h);
      lead = subst (λ z. LeadTo z c.set_place.new.places.items) (sym new) (subst (λ z. LeadTo (swap_remove items i d) z) (sym written) (lead-moved items places i d c.requires.lead there moved moves));
      size = ap length written ∙ length-set places moved.number i;
      rest = λ w. omega (arith, ap (weight w) new, weight-swap_remove w items i d there, ap w value);
    }
