use Rattle.std.proofs.Common.{◌≡◌, ◌-◌, ◌+◌, ℕ, map}
use Rattle.std.specs.Prelude.{vec_len, vec_items}
use Rattle.orc_indexes.specs.Parking.{notes_at}
use Rattle.orc_indexes.proofs.wait_index.reach_cell.Given as goal

abbrev pub invariant-loop-alloc : goal.invariant-loop-alloc
invariant-loop-alloc l = (c : ℕ) → notes_at (map vec_items l.notes.items) c ≡ notes_at (map vec_items l.initial.notes.items) c

abbrev pub decreases-loop-alloc : goal.decreases-loop-alloc
decreases-loop-alloc l = l.cell + 1 - vec_len l.notes
