-- What a clause says of a cell and of a note.
use Rattle.std.specs.Prelude.{◌≡◌, ℕ, Option, Some, IfSome}
use Rattle.std.specs.Arc.{arc_value}
use Rattle.once_cell.specs.Once.{cell_name}
use Rattle.orc_cell.specs.declared.cell.Cell.{Cell}
use Rattle.orc_cell.specs.declared.note.Note.{Note}

module _ {T : Type 0} where
  -- which cell it is: two names of one cell have one identity
  abbrev pub identity : Cell T → ℕ
  identity cell = cell_name (arc_value cell.shared)

  -- the cell that a note is of
  abbrev pub subject : Note T → ℕ
  subject note = note.sight.cell

  -- what the note has read
  abbrev pub known : Note T → Option T
  known note = note.sight.known

  -- the value is known from now on, and what was known before is the same
  abbrev pub Knows : Option T → Option T → T → Type 0
  Knows before after value = (after ≡ Some value) × IfSome before (λ b. b ≡ value)

  -- some value is known from now on, and what was known before is the same
  abbrev pub HasRead : Option T → Option T → Type 0
  HasRead before after = (value : T) × Knows before after value
