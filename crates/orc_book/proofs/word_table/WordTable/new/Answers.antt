use Rattle.std.proofs.Common.{None, [], refl, ◌∙◌, ap, arith, count_by, map}
use Rattle.std.specs.Prelude.{slice_index_or}
use Rattle.orc_book.specs.Words.{is_dying, stood_of}
use Rattle.orc_book.proofs.Dying.{one_dying, updated-dying}
use Rattle.orc_book.proofs.Entries.{turned-first}
use Rattle.orc_book.proofs.word_table.WordTable.new.Goals as goal

pub invariant_of-result : goal.invariant_of-result
invariant_of-result g c =
    let s = c.in_ok-stands.stands in
    let E = c.in-Ok.ensures in (
      c.requires,
      omega (arith, c.in_ok-stands.ensures.capacity, E.capacity),
      omega (arith, updated-dying s c.insert.new.self _ _ E.updates, ap (λ z. count_by is_dying (map stood_of z)) c.in_ok-stands.ensures.empty, ap (λ z. one_dying (stood_of (slice_index_or z c.in-Ok._first None))) c.in_ok-stands.ensures.empty),
    )

pub returns : goal.returns
returns g c = (refl, turned-first c.in_ok-stands.stands c.insert.new.self c.in-Ok._first _ c.in_ok-stands.ensures.empty (c.in-Ok.ensures.key ∙ c.in_ok-stands.ensures.first_key) c.in-Ok.ensures.updates)
