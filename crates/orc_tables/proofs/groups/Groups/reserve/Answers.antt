use Rattle.std.proofs.Common.{◌≡◌, ◌≤◌, ◌++◌, ◌∷◌, [], length, sym, ap, ◌∙◌, subst, arith, length-append}
use Rattle.orc_tables.specs.OpenGroups.{GroupTable, AreNumbered, empty_in, size_of}
use Rattle.orc_tables.proofs.Leading.{grown-numbered}
use Rattle.orc_tables.proofs.Emptied.{empty-same, size-grown}
use Rattle.orc_tables.proofs.groups.Groups.reserve.Goals as goal

pub invariant_of-self-in-Continue-branch-2 : goal.invariant_of-self-in-Continue-branch-2
invariant_of-self-in-Continue-branch-2 c =
    let b = c.self.inside in
    let a = c.in_ok-add_number.ensures in
    let N = c.self.invariant.0 in
    let none : length b.free.items ≡ 0 = omega (arith, c.if-len-eq0.true, c.len.ensures, b.free.ok.0) in
    let few : length b.items.items ≤ 1022 = omega (arith, c.requires.few, ap (λ (t : GroupTable). length t.items) c.self.view_is) in
    let number : c.add_number.new.free.items ≡ length b.places.items ∷ [] = a.free ∙ ap (λ z. z ∷ []) (let e : _ ≡ length b.places.items = omega (arith, b.places.ok.0) in e) in
    let grown = grown-numbered b.items.items b.places.items b.free.items N none (omega (arith, N.all, none, few)) in (
      subst (λ z. AreNumbered z c.add_number.new.places.items c.add_number.new.free.items) (sym c.in_ok-reserve.ensures.items) (subst (λ z. AreNumbered b.items.items z c.add_number.new.free.items) (sym a.places) (subst (λ z. AreNumbered b.items.items (b.places.items ++ 0 ∷ []) z) (sym number) grown)),
      omega (arith, ap length a.sizes, ap length a.places, length-append b.sizes.items (0 ∷ []), length-append b.places.items (0 ∷ []), c.self.invariant.1),
      omega (arith, a.room, c.add_number.new.places.ok.0),
      c.self.invariant.3 ∙ sym (empty-same b.sizes.items c.add_number.new.sizes.items b.items.items (λ i. ap (λ z. size_of z i) a.sizes ∙ size-grown b.sizes.items i)) ∙ ap (empty_in c.add_number.new.sizes.items) (sym c.in_ok-reserve.ensures.items),
    )
