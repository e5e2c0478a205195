use Rattle.std.proofs.Common.{◌≡◌, ℕ, ◌+◌, List, length, ap, arith}
use Rattle.std.specs.Prelude.{slice_set}
use Rattle.orc_tables.specs.Tokens.{live, IsHeld}
use Rattle.orc_tables.specs.declared.records.Token.{Token}
use Rattle.orc_tables.proofs.Parked.{held-cleared, stay-cleared}
use Rattle.orc_indexes.proofs.Lists.{count-weight}
use Rattle.orc_tables.proofs.Slots.{removed}
use Rattle.orc_tables.proofs.tokens.Tokens.remove.Goals as goal

one_less : (slots : List Token) (slot : ℕ) (t free : Token) → IsHeld slots slot t → free.serial ≡ 0 → length (live (slice_set slots slot free)) + 1 ≡ length (live slots)
one_less slots slot t free h none = omega (arith, count-weight (live (slice_set slots slot free)), count-weight (live slots), removed (λ t. 1) slots slot t free h none)

pub overflow_sub-self : goal.overflow_sub-self
overflow_sub-self c =
    let b = c.self.inside in
    let h : IsHeld b.slots.items c.args.slot c.requires.0 = rw (← c.self.view_is) at c.requires.1 in
    omega (arith, c.self.invariant.0, one_less b.slots.items c.args.slot c.requires.0 c.nobody.result h c.nobody.ensures)

pub invariant_of-self : goal.invariant_of-self
invariant_of-self c =
    let b = c.self.inside in
    let h : IsHeld b.slots.items c.args.slot c.requires.0 = rw (← c.self.view_is) at c.requires.1 in (
      omega (arith, c.self.invariant.0, one_less b.slots.items c.args.slot c.requires.0 c.nobody.result h c.nobody.ensures, ap (λ z. length (live z)) c.put.ensures.items),
      held-cleared b.slots.items c.put.new.slots.items b.parking c.clear.new.self c.args.slot c.nobody.result c.put.ensures.items c.clear.ensures.flags c.self.invariant.1,
    )

pub returns-clause-parked : goal.returns-clause-parked
returns-clause-parked c = let b = c.self.inside in rw (← c.self.view_is) (stay-cleared b.slots.items c.put.new.slots.items b.parking c.clear.new.self c.args.slot c.nobody.result c.put.ensures.items c.clear.ensures.flags c.clear.ensures.notes)
