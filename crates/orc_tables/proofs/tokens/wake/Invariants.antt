use Rattle.std.proofs.Common.{◌≡◌, ℕ, length, true}
use Rattle.orc_indexes.specs.Parking.{is_set, notes_at, IsNoted}
use Rattle.orc_tables.specs.Tokens.{IsHeld}
use Rattle.orc_tables.specs.declared.records.Token.{Token}
use Rattle.orc_tables.proofs.tokens.wake.Given as goal

abbrev pub invariant-loop-note : goal.invariant-loop-note
invariant-loop-note l = record {
  flags : (k : ℕ) → is_set l.parking.flags k ≡ true → is_set l.initial.parking.flags k ≡ true;
  left : (k : ℕ) (t : Token) → IsHeld l.slots.items k t → is_set l.parking.flags k ≡ true → IsNoted l.initial.parking l.cell k t.serial → IsNoted l.parking l.cell k t.serial;
  others : (c : ℕ) → (c ≡ l.cell → ⊥) → notes_at l.parking.notes c ≡ notes_at l.initial.parking.notes c;
}

abbrev pub decreases-loop-note : goal.decreases-loop-note
decreases-loop-note l = length (notes_at l.parking.notes l.cell)
