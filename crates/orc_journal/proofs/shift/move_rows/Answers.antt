use Rattle.std.proofs.Common.{◌≡◌, ◌<◌, ℕ, ◌+◌, List, [], ◌∷◌, ◌++◌, length, get_or, set, take, drop, map, sym, ap, subst, ◌∙◌, arith}
use Rattle.std.proofs.lemmas.List.{drop_more, drop-set-lt, map_more, take_more_set}
use Rattle.std.specs.List.{All}
use Rattle.std.proofs.lemmas.List.Elements.{All-more}
use Rattle.orc_journal.specs.declared.rows.Row.{Row}
use Rattle.orc_journal.specs.Shifts.{row_by, IsMovable}
use Rattle.orc_journal.proofs.shift.move_rows.Goals as goal

-- where the item at a place is moved, those up to it are, and the others are as they were
moved_at : (f : Row → Row) (xs os : List Row) (i : ℕ) (y d : Row) → i < length xs → i < length os → take i xs ≡ map f (take i os) → drop i xs ≡ drop i os → y ≡ f (get_or xs i d)
    → (take (i + 1) (set xs i y) ≡ map f (take (i + 1) os)) × (drop (i + 1) (set xs i y) ≡ drop (i + 1) os)
moved_at f xs os i y d in_xs in_os moved others is =
    let a = drop_more xs i d in_xs in
    let b = drop_more os i d in_os in
    let same : get_or xs i d ≡ get_or os i d = cc in
    let rest : drop (i + 1) xs ≡ drop (i + 1) os = cc in (
      take_more_set xs i y in_xs ∙ (λ j. moved j ++ (is ∙ ap f same) j ∷ []) ∙ sym (map_more f os i d in_os),
      drop-set-lt (i + 1) xs i y (omega arith) ∙ rest,
    )

-- the item at a place is still as it was, and was movable
movable_at : (xs os : List Row) (i : ℕ) (d : Row) → i < length xs → i < length os → All IsMovable (take i os) → drop i xs ≡ drop i os → IsMovable (get_or xs i d) → All IsMovable (take (i + 1) os)
movable_at xs os i d in_xs in_os are others is =
    let a = drop_more xs i d in_xs in
    let b = drop_more os i d in_os in
    let same : get_or xs i d ≡ get_or os i d = cc in
    All-more IsMovable os i d in_os are (subst IsMovable same is)

pub loop-row-preserved : goal.loop-row-preserved
loop-row-preserved c =
    let both = moved_at (row_by c.args.shift) c.loop-row.rows c.args.rows.now c.loop-row.row-index c.move_row.new.row _ (omega arith) (omega arith) c.loop-row.invariant.moved c.loop-row.invariant.others
    c.in_ok-move_row.ensures.moved in
    let movable = movable_at c.loop-row.rows c.args.rows.now c.loop-row.row-index _ (omega arith) (omega arith) c.loop-row.invariant.movable c.loop-row.invariant.others c.in_ok-move_row.ensures.movable in
    record { moved = both.0; movable = movable; others = both.1 }
