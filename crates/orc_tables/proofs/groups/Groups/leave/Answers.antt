use Rattle.std.proofs.Common.{◌≡◌, ◌<◌, ◌-◌, length, length-set, ap, ◌∙◌, arith}
use Rattle.std.specs.Prelude.{slice_set}
use Rattle.orc_rules.specs.declared.limits.TheConstants.{MOST_GROUPS}
use Rattle.orc_tables.specs.OpenGroups.{size_of, empty_in}
use Rattle.orc_tables.proofs.Leading.{size-left}
use Rattle.orc_tables.proofs.Emptied.{empty-left, empty-few}
use Rattle.orc_tables.proofs.groups.Groups.leave.Goals as goal

pub count_if-requires-clause-once : goal.count_if-requires-clause-once
count_if-requires-clause-once c = omega (arith, c.self.invariant.0.once c.args.number)

pub overflow_add-self : goal.overflow_add-self
overflow_add-self c =
    let b = c.self.inside in
    let n = c.args.number in
    let written : c.set_size.new.sizes.items ≡ slice_set b.sizes.items n (size_of b.sizes.items n - 1) = c.set_size.ensures ∙ ap (slice_set b.sizes.items n) (c.saturating_sub.ensures ∙ ap (λ z. z - 1) c.size_at-size.ensures) in
    let left = empty-left b.sizes.items c.set_size.new.sizes.items n b.items.items (λ i. ap (λ z. size_of z i) written ∙ size-left b.sizes.items n i) c.size_at-size.result c.size_at-size.ensures in
    let few : empty_in c.set_size.new.sizes.items b.items.items < MOST_GROUPS = empty-few c.set_size.new.sizes.items b.items.items b.places.items b.free.items c.self.invariant.0 in
    omega (arith, left, few, c.count_if.ensures, c.self.invariant.3)

pub invariant_of-self : goal.invariant_of-self
invariant_of-self c =
    let b = c.self.inside in
    let n = c.args.number in
    let written : c.set_size.new.sizes.items ≡ slice_set b.sizes.items n (size_of b.sizes.items n - 1) = c.set_size.ensures ∙ ap (slice_set b.sizes.items n) (c.saturating_sub.ensures ∙ ap (λ z. z - 1) c.size_at-size.ensures) in
    let left = empty-left b.sizes.items c.set_size.new.sizes.items n b.items.items (λ i. ap (λ z. size_of z i) written ∙ size-left b.sizes.items n i) c.size_at-size.result c.size_at-size.ensures in (
      c.self.invariant.0,
      omega (arith, c.self.invariant.1, ap length written, length-set b.sizes.items n (size_of b.sizes.items n - 1)),
      c.self.invariant.2,
      omega (arith, left, c.count_if.ensures, c.self.invariant.3),
    )
