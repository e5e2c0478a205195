-- Which slots hold a token that is known to wait, and for which cells.
use Rattle.std.specs.Prelude.{ℕ, List, [], Bool, false, cond, slice_index_or}
use Rattle.orc_rules.specs.Timed.{IsIn}
use Rattle.orc_indexes.specs.declared.wait_index.Note.{Note}

-- what callers see of it: by slot whether its token is known to wait, and by cell the tokens that wait for it
pub record Parked : Type 0 where
  pub flags : List Bool
  pub notes : List (List Note)

-- the token in this slot is known to wait; false for a slot without a flag
abbrev pub is_set : List Bool → ℕ → Bool
is_set flags slot = slice_index_or flags slot false

-- the notes of a cell; one without a list has none
abbrev pub notes_at : List (List Note) → ℕ → List Note
notes_at notes cell = slice_index_or notes cell []

-- 1 for a set flag, else 0: `weight one flags` is how many flags are set
abbrev pub one : Bool → ℕ
one b = cond b 1 0

-- a token is noted with a cell
abbrev pub IsNoted : Parked → ℕ → ℕ → ℕ → Type 0
IsNoted q cell slot serial = IsIn (record { slot = slot; serial = serial }) (notes_at q.notes cell)
