use Rattle.std.proofs.Common.{None, Some, ap, arith}
use Rattle.orc_book.specs.Words.{stood_of}
use Rattle.orc_book.proofs.Entries.{turned}
use Rattle.orc_book.proofs.Dying.{one_dying, updated-dying}
use Rattle.orc_book.proofs.word_table.WordTable.free.Goals as goal

pub overflow_sub-self : goal.overflow_sub-self
overflow_sub-self g c =
    let s = c.self.inside.stands in
    omega (arith, c.self.invariant.2, updated-dying s c.try_remove.new.self c.args.word None c.try_remove.ensures.updates, ap (λ o. one_dying (stood_of o)) c.in-Some-Dying.ensures.value, ap (λ x. one_dying (stood_of (Some x))) c.in-Some-Dying.field-0-is)

pub invariant_of-self : goal.invariant_of-self
invariant_of-self g c =
    let s = c.self.inside.stands in
    (c.self.invariant.0, omega (arith, c.self.invariant.1, c.try_remove.ensures.capacity), omega (arith, c.self.invariant.2, updated-dying s c.try_remove.new.self c.args.word None c.try_remove.ensures.updates, ap (λ o. one_dying (stood_of o)) c.in-Some-Dying.ensures.value, ap (λ x. one_dying (stood_of (Some x))) c.in-Some-Dying.field-0-is))

pub invariant_of-self-in-Some-Open : goal.invariant_of-self-in-Some-Open
invariant_of-self-in-Some-Open g c =
    let s = c.self.inside.stands in
    (c.self.invariant.0, omega (arith, c.self.invariant.1, c.try_remove.ensures.capacity), omega (arith, c.self.invariant.2, updated-dying s c.try_remove.new.self c.args.word None c.try_remove.ensures.updates, ap (λ o. one_dying (stood_of o)) c.in-Some-Open.ensures.value, ap (λ x. one_dying (stood_of (Some x))) c.in-Some-Open.field-0-is))

pub returns-in-Some-Dying-clause-freed : goal.returns-in-Some-Dying-clause-freed
returns-in-Some-Dying-clause-freed g c = rw (← c.self.view_is) (turned c.self.inside.stands c.try_remove.new.self c.args.word None c.try_remove.ensures.updates)

pub returns-in-Some-Open-clause-freed : goal.returns-in-Some-Open-clause-freed
returns-in-Some-Open-clause-freed g c = rw (← c.self.view_is) (turned c.self.inside.stands c.try_remove.new.self c.args.word None c.try_remove.ensures.updates)

pub returns-in-None-clause-freed : goal.returns-in-None-clause-freed
returns-in-None-clause-freed g c = rw (← c.self.view_is) (turned c.self.inside.stands c.try_remove.new.self c.args.word None c.try_remove.ensures.updates)
