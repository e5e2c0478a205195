use Rattle.std.proofs.Common.{◌≡◌, ◌+◌, length, sym, subst, arith}
use Rattle.orc_tables.specs.OpenGroups.{AreNumbered, is_none, size_of}
use Rattle.orc_tables.specs.declared.records.Group.{Group}
use Rattle.orc_tables.proofs.Leading.{gone-numbered}
use Rattle.orc_tables.proofs.groups.Groups.remove.Goals as goal

pub invariant_of-self : goal.invariant_of-self
invariant_of-self c =
    let b = c.self.inside in
    let r = c.remove_at-group in
    let fewer : length r.new.items.items + 1 ≡ length b.items.items = omega (arith, r.ensures.len, b.items.ok.0, r.new.items.ok.0) in
    let N = gone-numbered b.items.items r.new.items.items b.places.items r.new.places.items b.free.items r.result c.self.invariant.0 r.ensures.lead r.ensures.size fewer r.ensures.rest in (
      subst (λ z. AreNumbered r.new.items.items r.new.places.items z) (sym c.push_within.ensures.items) N,
      omega (arith, r.ensures.size, c.self.invariant.1),
      omega (arith, r.ensures.size, c.self.invariant.2, c.push_within.ensures.capacity),
      omega (arith, r.ensures.rest (λ (g : Group). is_none (size_of b.sizes.items g.number)), c.none_at.ensures, c.self.invariant.3),
    )

pub overflow_sub-self : goal.overflow_sub-self
overflow_sub-self c =
    let b = c.self.inside in
    omega (arith, c.remove_at-group.ensures.rest (λ (g : Group). is_none (size_of b.sizes.items g.number)), c.none_at.ensures, c.self.invariant.3)
