-- Names that are found by their text: the first ones one by one, the others in a table.
use Rattle.std.specs.Prelude.{ℕ, nat_lt, cond, Option, Some, None}

-- a place, unless it is one of the first n
abbrev pub late : ℕ → Option ℕ → Option ℕ
late n None = None
late n (Some m) = cond (nat_lt m n) None (Some m)
