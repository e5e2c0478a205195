use Rattle.std.proofs.Common.{refl}
use Rattle.orc_tables.proofs.Placed.{carried}
use Rattle.orc_tables.proofs.pending.Pending.reserve.Goals as goal

pub invariant_of-self : goal.invariant_of-self
invariant_of-self c = let b = c.self.inside in carried b.items.items c.try_reserve.new.self.items b.places.items c.self.inside.places.items b.dues c.self.inside.dues c.try_reserve.ensures.items refl (λ t k h. h) c.self.invariant

pub invariant_of-self-in_err-try_reserve-2 : goal.invariant_of-self-in_err-try_reserve-2
invariant_of-self-in_err-try_reserve-2 c = let b = c.self.inside in carried b.items.items c.try_reserve.new.self.items b.places.items c.try_reserve-2.new.self.items b.dues c.self.inside.dues c.try_reserve.ensures.items c.try_reserve-2.ensures.items (λ t k h. h) c.self.invariant

pub invariant_of-self-in-Continue-branch-4 : goal.invariant_of-self-in-Continue-branch-4
invariant_of-self-in-Continue-branch-4 c = let b = c.self.inside in carried b.items.items c.try_reserve.new.self.items b.places.items c.try_reserve-2.new.self.items b.dues c.note.new.self c.try_reserve.ensures.items c.try_reserve-2.ensures.items c.note.ensures.kept c.self.invariant

pub invariant_of-self-in_err-note : goal.invariant_of-self-in_err-note
invariant_of-self-in_err-note c = let b = c.self.inside in carried b.items.items c.try_reserve.new.self.items b.places.items c.try_reserve-2.new.self.items b.dues c.note.new.self c.try_reserve.ensures.items c.try_reserve-2.ensures.items c.note.ensures.kept c.self.invariant

pub invariant_of-self-in_default : goal.invariant_of-self-in_default
invariant_of-self-in_default c = let b = c.self.inside in carried b.items.items c.try_reserve.new.self.items b.places.items c.try_reserve-2.new.self.items b.dues c.self.inside.dues c.try_reserve.ensures.items c.try_reserve-2.ensures.items (λ t k h. h) c.self.invariant

pub invariant_of-self-in_err-reserve : goal.invariant_of-self-in_err-reserve
invariant_of-self-in_err-reserve c = let b = c.self.inside in carried b.items.items c.try_reserve.new.self.items b.places.items c.try_reserve-2.new.self.items b.dues c.self.inside.dues c.try_reserve.ensures.items c.try_reserve-2.ensures.items (λ t k h. h) c.self.invariant
