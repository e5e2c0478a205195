use Rattle.std.proofs.Common.{◌≡◌, ◌++◌, ◌∷◌, [], length, sym, ap, ◌∙◌, subst, arith, length-set, refl, ◌+◌, ◌≤◌, ◌<◌}
use Rattle.std.specs.Prelude.{slice_set}
use Rattle.orc_indexes.specs.Same.{weight, is_this}
use Rattle.orc_indexes.proofs.Weight.{weight-append, this_is}
use Rattle.orc_tables.specs.OpenGroups.{GroupTable, AreNumbered, is_named, empty_in, size_of}
use Rattle.orc_tables.specs.declared.records.Group.{Group}
use Rattle.orc_tables.proofs.Leading.{opened-numbered, free-number}
use Rattle.orc_tables.proofs.Emptied.{empty-more, empty-few, none-most}
use Rattle.orc_tables.proofs.groups.Groups.open.Goals as goal

pub invariant_of-self : goal.invariant_of-self
invariant_of-self c =
    let b = c.self.inside in
    let n = c.take_free-number.result in
    let g : Group = record { side = c.args.side; outer = c.args.outer; number = n } in
    let N = opened-numbered b.items.items b.places.items b.free.items c.take_free-number.new.free.items g c.self.invariant.0 c.take_free-number.ensures.taken in
    let items : c.push_within.new.items.items ≡ b.items.items ++ g ∷ [] = c.push_within.ensures.items in
    let places : c.set_place.new.places.items ≡ slice_set b.places.items n (length b.items.items) = c.set_place.ensures ∙ ap (slice_set b.places.items n) (let e : c.len-place.result ≡ length b.items.items = omega (arith, c.len-place.ensures, b.items.ok.0) in e) in
    let len : length c.set_place.new.places.items ≡ length b.places.items = ap length places ∙ length-set b.places.items n (length b.items.items) in (
      subst (λ z. AreNumbered z c.set_place.new.places.items c.take_free-number.new.free.items) (sym items) (subst (λ z. AreNumbered (b.items.items ++ g ∷ []) z c.take_free-number.new.free.items) (sym places) N),
      omega (arith, len, c.self.invariant.1),
      omega (arith, len, c.self.invariant.2, c.take_free-number.ensures.capacity),
      omega (arith, ap (empty_in b.sizes.items) items, empty-more b.sizes.items b.items.items g, c.none_at.ensures, c.self.invariant.3),
    )

pub overflow_add-self : goal.overflow_add-self
overflow_add-self c =
    let b = c.self.inside in
    omega (arith, empty-few b.sizes.items b.items.items b.places.items b.free.items c.self.invariant.0, c.none_at.ensures, none-most (size_of b.sizes.items c.take_free-number.result), c.self.invariant.3)

pub returns-clause-free : goal.returns-clause-free
returns-clause-free c =
    let b = c.self.inside in
    let n = c.take_free-number.result in
    let f = free-number b.items.items b.places.items b.free.items c.take_free-number.new.free.items n c.self.invariant.0 c.take_free-number.ensures.taken in
    (f.0, ap (λ (t : GroupTable). weight (is_named n) t.items) (sym c.self.view_is) ∙ f.1)

pub returns-clause-few : goal.returns-clause-few
returns-clause-few c =
    let b = c.self.inside in
    let n = c.take_free-number.result in
    let N = c.self.invariant.0 in
    omega (arith, N.within n (omega (arith, ap (weight (is_this n)) c.take_free-number.ensures.taken, weight-append (is_this n) c.take_free-number.new.free.items (n ∷ []), this_is n n refl)), N.few)
