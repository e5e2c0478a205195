-- What a clause says of a reader.
use Rattle.std.specs.Prelude.{Option}
use Rattle.orc_cell.specs.Words.{known}
use Rattle.orc_cell.specs.declared.reader.Reader.{Reader}

module _ {T : Type 0} where
  -- what the reader has read
  abbrev pub has_read : Reader T → Option T
  has_read reader = known reader.note
