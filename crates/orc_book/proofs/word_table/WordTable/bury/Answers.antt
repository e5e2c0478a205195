use Rattle.std.proofs.Common.{◌≡◌, ap, map, refl, arith}
use Rattle.std.proofs.lemmas.List.{length-map}
use Rattle.orc_book.specs.declared.word_table.Kind.TheVariants.{Open}
use Rattle.orc_book.specs.Words.{kind_at, stood_of}
use Rattle.orc_book.proofs.Entries.{turned-over}
use Rattle.orc_book.proofs.Dying.{buried-dying, buried-words, fewer-dying}
use Rattle.orc_book.proofs.word_table.WordTable.bury.Goals as goal

pub overflow_add-self : goal.overflow_add-self
overflow_add-self g c =
    let s = c.self.inside.stands in
    let stood : kind_at (map stood_of s.slots) c.args.word ≡ Open c.requires.stood.0 = rw (← c.self.view_is) at c.requires.stood.1 in
    omega (arith, c.self.invariant.2, fewer-dying (map stood_of s.slots) c.args.word c.requires.stood.0 stood, length-map s.slots stood_of, c.capacity-room.ensures.slots, c.capacity-room.type_inv)

pub invariant_of-self : goal.invariant_of-self
invariant_of-self g c =
    let s = c.self.inside.stands in
    let stood : kind_at (map stood_of s.slots) c.args.word ≡ Open c.requires.stood.0 = rw (← c.self.view_is) at c.requires.stood.1 in
    (c.self.invariant.0, c.self.invariant.1, buried-dying s c.args.word c.requires.stood.0 _ stood refl _ c.self.invariant.2)

pub returns-clause-killed : goal.returns-clause-killed
returns-clause-killed g c = rw (← c.self.view_is) (turned-over c.self.inside.stands c.args.word _ _ (rw (← c.self.view_is) at c.requires.stood.1))

pub returns-clause-held : goal.returns-clause-held
returns-clause-held g c = rw (← c.self.view_is) (buried-words c.self.inside.stands c.args.word c.requires.stood.0 _ (rw (← c.self.view_is) at c.requires.stood.1))
