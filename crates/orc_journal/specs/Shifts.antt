-- How a part's rows move to the end of the enclosing journal's.
use Rattle.std.specs.Prelude.{◌≡◌, ◌≤◌, ℕ, ◌+◌, ◌-◌, length, cond, nat_eq}
use Rattle.orc_rules.specs.declared.kind.Kind.TheVariants as kinds
use Rattle.orc_subrun.specs.declared.numbers.Numbering.{Numbering}
use Rattle.orc_journal.specs.declared.rows.Called.{Called}
use Rattle.orc_journal.specs.declared.rows.Row.{Row}
use Rattle.orc_journal.specs.declared.rows.Row.TheVariants.{Narrow}
use Rattle.orc_journal.specs.declared.shift.Shift.{Shift}
use Rattle.orc_journal.specs.Rows.{Contents}

-- a part's mark 1 becomes the token's, and to the others a number is added
abbrev pub mark_by : Shift → ℕ → ℕ
mark_by s own = cond (nat_eq own 1) s.token (s.marks + own)

-- a part's row, moved: marks, calls, cells and places each by their own number
abbrev pub row_by : Shift → Row → Row
row_by s (Narrow kinds.End a b c) = Narrow kinds.End (mark_by s a) b c
row_by s (Narrow kinds.Fork a b c) = Narrow kinds.Fork (mark_by s a) (mark_by s b) (mark_by s c)
row_by s (Narrow kinds.Seq a b c) = Narrow kinds.Seq (mark_by s a) (mark_by s b) c
row_by s (Narrow kinds.Other a b c) = Narrow kinds.Other (mark_by s a) (mark_by s b) c
row_by s (Narrow kinds.Def a b c) = Narrow kinds.Def (mark_by s a) (mark_by s b) c
row_by s (Narrow kinds.Void a b c) = Narrow kinds.Void (mark_by s a) b c
row_by s (Narrow kinds.Open a b c) = Narrow kinds.Open (mark_by s a) (s.cells + b) (s.marks + c)
row_by s (Narrow kinds.Send a b c) = Narrow kinds.Send (mark_by s a) (mark_by s b) (s.values + c)
row_by s (Narrow kinds.Call a b c) = Narrow kinds.Call (mark_by s a) (s.calls + b) (s.called + c)
row_by s (Narrow kinds.Return a b c) = Narrow kinds.Return (s.calls + a) (mark_by s b) (s.values + c)
row_by s (Narrow kinds.ReturnHalt a b c) = Narrow kinds.ReturnHalt (s.calls + a) b c
row_by s (Narrow kinds.Bind a b c) = Narrow kinds.Bind (mark_by s a) (s.cells + b) (s.values + c)
row_by s (Narrow kinds.Lost a b c) = Narrow kinds.Lost (s.cells + a) b c
row_by s (Narrow kinds.Right a b c) = Narrow kinds.Right (mark_by s a) (mark_by s b) c
row_by s (Narrow kinds.Publish a b c) = Narrow kinds.Publish (mark_by s a) b (s.values + c)
row_by s r = r

-- the new marks of an `open` still follow one another when they are moved: neither is mark 1
abbrev pub IsMovable : Row → Type 0
IsMovable (Narrow kinds.Open a b c) = 2 ≤ c
IsMovable _ = Unit {0}

-- a part's call, moved: its arguments are behind the values that were there
abbrev pub called_by : Shift → Called → Called
called_by s c = record { site = c.site; count = c.count; start = s.values + c.start }

-- the shift to the end of these tables, under these numbers; a part's marks behind mark 1 begin with 2
abbrev pub shift_to : Contents → Numbering → Shift
shift_to t n = record { token = n.token; marks = n.mark - 2; calls = n.calls; cells = n.cells; values = length t.values; called = length t.calls }

-- a shift that moves all of a part's rows
pub record Shifts (t part : Contents) (n : Numbering) (s : Shift) : Type 0 where
  pub is : s ≡ shift_to t n
  pub later : 2 ≤ n.mark
  pub narrow : length part.wides ≡ 0
