-- The text of the numbers of ranges with which ways fail.
use Rattle.std.specs.Prelude.{ℕ, suc, List, [], ◌∷◌, ◌++◌, Bool, true, false, cond, ◌||◌, Option, Some, None, codes, slice_get}
use Rattle.orc_rules.specs.declared.value.Found.{Found}
use Rattle.orc_rules.specs.declared.value.Found.TheVariants.{After, Never}
use Rattle.orc_cases.specs.Choices.{Choice}
use Rattle.orc_cases.specs.Intervals.{ascending, intervals}
use Rattle.orc_cases.specs.Ranges.{delays}
use Rattle.orc_cases.specs.Texts.{intervals_text, mark, reply_text}
use Rattle.orc_cases.specs.Ways.{CaseWays, Line, Way, ways}

-- what the line at a place answers to a call, with all delays with which it gives this answer to that call in those of the ways that fail, as
-- intervals
abbrev pub failing_answer : ℕ → ℕ → Found → List Way → List Bool → List ℕ
failing_answer line call (After a d) ws fs = reply_text a ++ (codes " after " ++ intervals_text true (intervals (ascending (delays line call a ws fs))))
failing_answer line call Never ws fs = codes "never"

-- the part of a line from its `=` on, where these are its answers from a call on
abbrev pub failing_answers : ℕ → ℕ → List Found → List Way → List Bool → List ℕ
failing_answers line call [] ws fs = codes "\n"
failing_answers line call (a ∷ more) ws fs = mark call ++ (failing_answer line call a ws fs ++ failing_answers line (suc call) more ws fs)

-- a line, where what it does has a range
abbrev pub failing_line : ℕ → Line → Option Choice → List Way → List Bool → List ℕ
failing_line line l (Some c) ws fs = cond c.is_ranged (l.call ++ failing_answers line 0 c.answers ws fs) []
failing_line line l None ws fs = []

-- the lines from a place on that have a range in this way
abbrev pub failing_lines : ℕ → List Line → Way → List Way → List Bool → List ℕ
failing_lines line [] w ws fs = []
failing_lines line (l ∷ ls) w ws fs = failing_line line l (slice_get w line) ws fs ++ failing_lines (suc line) ls w ws fs

abbrev pub failing_or_none : CaseWays → List Bool → Option Way → List ℕ
failing_or_none c fs (Some w) = failing_lines 0 c.lines w (ways c) fs
failing_or_none c fs None = []

-- those lines of the way with this number, from 0, that have a range, with the numbers of the ranges with which the first ways fail, of each of which
-- this says whether it does
abbrev pub failing_ranges : CaseWays → ℕ → List Bool → List ℕ
failing_ranges c number fs = failing_or_none c fs (slice_get (ways c) number)

-- ---- whether there are such lines

-- a choice is there and has a range
abbrev pub is_ranged : Option Choice → Bool
is_ranged (Some c) = c.is_ranged
is_ranged None = false

-- a line from a place on has a range in this way
abbrev pub has_ranged : ℕ → List Line → Way → Bool
has_ranged line [] w = false
has_ranged line (l ∷ ls) w = is_ranged (slice_get w line) || has_ranged (suc line) ls w

abbrev pub ranged_or_none : CaseWays → Option Way → Bool
ranged_or_none c (Some w) = has_ranged 0 c.lines w
ranged_or_none c None = false

-- the way with this number has a range
abbrev pub has_range : CaseWays → ℕ → Bool
has_range c number = ranged_or_none c (slice_get (ways c) number)
