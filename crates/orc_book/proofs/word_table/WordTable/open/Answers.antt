use Rattle.std.proofs.Common.{◌<◌, ◌≡◌, ap, arith, subst, None}
use Rattle.orc_book.specs.Words.{stood_of}
use Rattle.orc_book.proofs.Dying.{one_dying, updated-dying}
use Rattle.slab.specs.Slab.{get}
use Rattle.orc_book.proofs.Entries.{has-room, none-free, turned-at}
use Rattle.orc_book.proofs.word_table.WordTable.open.Goals as goal

pub insert_reserved-word-requires : goal.insert_reserved-word-requires
insert_reserved-word-requires g c =
    let s = c.self.inside.stands in
    let few : s.vacant_key < g.P.Naming.table.words = rw (← c.self.view_is) at c.requires in
    let within : s.vacant_key < s.capacity = omega (arith, few, c.self.invariant.0, c.self.invariant.1) in
    let vacant : get s s.vacant_key ≡ None = subst (λ z. get s z ≡ None) c.vacant_key-key.ensures.value c.vacant_key-key.ensures.vacant in
    has-room s s.vacant_key within vacant (omega (arith, c.capacity-room.ensures.slots, c.capacity-room.ensures.value))

pub invariant_of-self : goal.invariant_of-self
invariant_of-self g c =
    let s = c.self.inside.stands in
    let s' = c.insert_reserved-word.new.self in
    let e = c.insert_reserved-word.ensures in (
      c.self.invariant.0,
      omega (arith, c.self.invariant.1, e.capacity),
      omega (arith, c.self.invariant.2, updated-dying s s' _ _ e.updates, ap (λ o. one_dying (stood_of o)) e.was_vacant),
    )

pub returns : goal.returns
returns g c =
    let s = c.self.inside.stands in
    let vacant : get s s.vacant_key ≡ None = subst (λ z. get s z ≡ None) c.vacant_key-key.ensures.value c.vacant_key-key.ensures.vacant in
    let e = c.insert_reserved-word.ensures in
    rw (← c.self.view_is) (none-free s s.vacant_key vacant, turned-at s c.insert_reserved-word.new.self _ _ _ e.key e.updates)
