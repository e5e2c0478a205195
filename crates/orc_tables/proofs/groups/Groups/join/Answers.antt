use Rattle.std.proofs.Common.{◌≡◌, ◌<◌, ◌+◌, length, length-set, sym, ap, ◌∙◌, subst, arith}
use Rattle.std.specs.Prelude.{slice_set}
use Rattle.orc_tables.specs.OpenGroups.{GroupTable, IsOpen, size_of}
use Rattle.orc_indexes.specs.Same.{is_this}
use Rattle.orc_tables.proofs.Leading.{open-within, size-joined}
use Rattle.orc_tables.proofs.Emptied.{empty-joined}
use Rattle.orc_tables.proofs.groups.Groups.join.Goals as goal

pub count_if-requires-clause-once : goal.count_if-requires-clause-once
count_if-requires-clause-once c = omega (arith, c.self.invariant.0.once c.args.number)

pub overflow_sub-self : goal.overflow_sub-self
overflow_sub-self c =
    let b = c.self.inside in
    let n = c.args.number in
    let is_open : IsOpen b.items.items n = subst (λ (t : GroupTable). IsOpen t.items n) (sym c.self.view_is) c.requires.open in
    let there : n < length b.sizes.items = omega (arith, open-within b.items.items b.places.items b.free.items n c.self.invariant.0 is_open, c.self.invariant.1) in
    let written : c.set_size.new.sizes.items ≡ slice_set b.sizes.items n (size_of b.sizes.items n + 1) = c.set_size.ensures ∙ ap (λ z. slice_set b.sizes.items n (z + 1)) c.size_at-size.ensures in
    let joined = empty-joined b.sizes.items c.set_size.new.sizes.items n b.items.items (λ i. ap (λ z. size_of z i) written ∙ size-joined b.sizes.items n i there) c.size_at-size.result c.size_at-size.ensures in
    omega (arith, joined, c.count_if.ensures, c.self.invariant.3)

pub invariant_of-self : goal.invariant_of-self
invariant_of-self c =
    let b = c.self.inside in
    let n = c.args.number in
    let is_open : IsOpen b.items.items n = subst (λ (t : GroupTable). IsOpen t.items n) (sym c.self.view_is) c.requires.open in
    let there : n < length b.sizes.items = omega (arith, open-within b.items.items b.places.items b.free.items n c.self.invariant.0 is_open, c.self.invariant.1) in
    let written : c.set_size.new.sizes.items ≡ slice_set b.sizes.items n (size_of b.sizes.items n + 1) = c.set_size.ensures ∙ ap (λ z. slice_set b.sizes.items n (z + 1)) c.size_at-size.ensures in
    let joined = empty-joined b.sizes.items c.set_size.new.sizes.items n b.items.items (λ i. ap (λ z. size_of z i) written ∙ size-joined b.sizes.items n i there) c.size_at-size.result c.size_at-size.ensures in (
      c.self.invariant.0,
      omega (arith, c.self.invariant.1, ap length written, length-set b.sizes.items n (size_of b.sizes.items n + 1)),
      c.self.invariant.2,
      omega (arith, joined, c.count_if.ensures, c.self.invariant.3),
    )

pub returns-clause-sizes : goal.returns-clause-sizes
returns-clause-sizes c = λ i.
    let b = c.self.inside in
    let n = c.args.number in
    let is_open : IsOpen b.items.items n = subst (λ (t : GroupTable). IsOpen t.items n) (sym c.self.view_is) c.requires.open in
    let there : n < length b.sizes.items = omega (arith, open-within b.items.items b.places.items b.free.items n c.self.invariant.0 is_open, c.self.invariant.1) in
    let written : c.set_size.new.sizes.items ≡ slice_set b.sizes.items n (size_of b.sizes.items n + 1) = c.set_size.ensures ∙ ap (λ z. slice_set b.sizes.items n (z + 1)) c.size_at-size.ensures in
    ap (λ z. size_of z i) written ∙ size-joined b.sizes.items n i there ∙ ap (λ (t : GroupTable). size_of t.sizes i + is_this i n) c.self.view_is
