use Rattle.std.proofs.Common.{length, ap, arith}
use Rattle.std.specs.Prelude.{slice_set}
use Rattle.orc_tables.specs.Tokens.{live, IsHeld}
use Rattle.orc_tables.proofs.Parked.{held-cleared, stay-cleared}
use Rattle.orc_indexes.proofs.Lists.{count-weight}
use Rattle.orc_tables.proofs.Slots.{replaced}
use Rattle.orc_tables.proofs.tokens.Tokens.replace.Goals as goal

pub invariant_of-self : goal.invariant_of-self
invariant_of-self c =
    let b = c.self.inside in
    let h : IsHeld b.slots.items c.args.slot c.requires.held.0 = rw (← c.self.view_is) at c.requires.held.1 in
    (omega (arith, c.self.invariant.0, ap (λ z. length (live z)) c.put.ensures.items, count-weight (live (slice_set b.slots.items c.args.slot c.args.token)), count-weight (live b.slots.items), replaced (λ t. 1) b.slots.items c.args.slot c.requires.held.0 c.args.token h c.requires.serial), held-cleared b.slots.items c.put.new.slots.items b.parking c.clear.new.self c.args.slot c.args.token c.put.ensures.items c.clear.ensures.flags c.self.invariant.1)

pub returns-clause-parked : goal.returns-clause-parked
returns-clause-parked c = let b = c.self.inside in rw (← c.self.view_is) (stay-cleared b.slots.items c.put.new.slots.items b.parking c.clear.new.self c.args.slot c.args.token c.put.ensures.items c.clear.ensures.flags c.clear.ensures.notes)
