use Rattle.std.proofs.Common.{refl}
use Rattle.orc_tables.proofs.Placed.{carried}
use Rattle.orc_tables.proofs.pending.Pending.reserve_number.Goals as goal

pub invariant_of-self : goal.invariant_of-self
invariant_of-self c = let b = c.self.inside in carried b.items.items c.try_reserve.new.self.items b.places.items b.places.items b.dues b.dues c.try_reserve.ensures.items refl (λ t k h. h) c.self.invariant

pub invariant_of-self-in_err-try_reserve-2 : goal.invariant_of-self-in_err-try_reserve-2
invariant_of-self-in_err-try_reserve-2 c = let b = c.self.inside in carried b.items.items c.try_reserve.new.self.items b.places.items c.try_reserve-2.new.self.items b.dues b.dues c.try_reserve.ensures.items c.try_reserve-2.ensures.items (λ t k h. h) c.self.invariant

pub invariant_of-self-2 : goal.invariant_of-self-2
invariant_of-self-2 c = let b = c.self.inside in carried b.items.items c.try_reserve.new.self.items b.places.items c.try_reserve-2.new.self.items b.dues b.dues c.try_reserve.ensures.items c.try_reserve-2.ensures.items (λ t k h. h) c.self.invariant
