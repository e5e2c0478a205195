use Rattle.std.proofs.Common.{◌≡◌, map, take, drop}
use Rattle.std.specs.List.{All}
use Rattle.orc_journal.specs.Shifts.{row_by, IsMovable}
use Rattle.orc_journal.proofs.shift.move_rows.Given as goal

abbrev pub invariant-loop-row : goal.invariant-loop-row
invariant-loop-row l = record {
  moved : take l.row-index l.rows ≡ map (row_by l.shift) (take l.row-index l.initial.rows);
  movable : All IsMovable (take l.row-index l.initial.rows);
  others : drop l.row-index l.rows ≡ drop l.row-index l.initial.rows;
}
