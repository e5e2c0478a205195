use Rattle.std.proofs.Common.{◌≡◌, ℕ, take}
use Rattle.orc_rules.specs.Timed.{IsIn}
use Rattle.orc_indexes.specs.Parking.{IsNoted}
use Rattle.orc_tables.proofs.tokens.note_all.Given as goal

abbrev pub invariant-loop-cell : goal.invariant-loop-cell
invariant-loop-cell l = record {
  flags : l.parking.flags ≡ l.initial.parking.flags;
  kept : (c k n : ℕ) → IsNoted l.initial.parking c k n → IsNoted l.parking c k n;
  noted : (c : ℕ) → IsIn c (take l.cell-index l.cells.items) → IsNoted l.parking c l.slot l.serial;
}
