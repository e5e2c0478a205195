-- The ways of a case.
use Rattle.std.specs.Prelude.{ℕ, suc, List, [], ◌∷◌, ◌++◌, map, filter, length, take, slice_get, Bool, true, false, not, cond, ◌&&◌, ◌||◌, ◌+◌, Option, Some, None, nat_eq, nat_lt, max}
use Rattle.std.specs.List.{flat_map, range_with_len}
use Rattle.orc_ways.specs.declared.limits.TheConstants.{MOST_WAYS}
use Rattle.orc_ways.specs.Lines.{Service}
use Rattle.orc_ways.specs.Drafts.{Test}
use Rattle.orc_cases.specs.Services.{services_of, others_of}
use Rattle.orc_cases.specs.Choices.{Choice, is_off, choices}
use Rattle.orc_cases.specs.Texts.{call_text, answers_text, halts_text, lacking_end}

-- what each line does
abbrev pub Way : Type 0
Way = List Choice

-- one of each, in every way, the last one the fastest
unfoldable pub combinations : List (List Choice) → List Way
combinations [] = [] ∷ []
combinations (cs ∷ css) = flat_map (λ c. map (λ w. c ∷ w) (combinations css)) cs

-- ---- their order

-- how many lines are off, and how many calls
abbrev pub lines_off : Way → ℕ
lines_off [] = 0
lines_off (c ∷ cs) = cond (is_off c) 1 0 + lines_off cs

abbrev pub calls_off : Way → ℕ
calls_off [] = 0
calls_off (c ∷ cs) = c.off + calls_off cs

-- so many lines are off, and so many calls
abbrev pub is_off_by : ℕ → ℕ → Way → Bool
is_off_by lines calls w = nat_eq (lines_off w) lines && nat_eq (calls_off w) calls

-- the greatest of these numbers, 0 of none
abbrev pub most : {X : Type 0} → (X → ℕ) → List X → ℕ
most f [] = 0
most f (x ∷ xs) = max (f x) (most f xs)

-- 0 to n
abbrev pub up_to : ℕ → List ℕ
up_to n = range_with_len 0 (suc n)

-- ways with fewer lines off first, of these those with fewer calls off, and of these as they stand
unfoldable pub in_order : List Way → List Way
in_order ws = flat_map (λ lines. flat_map (λ calls. filter (is_off_by lines calls) ws) (up_to (most calls_off ws))) (up_to (most lines_off ws))

-- ---- of a case

-- a line of each script: what stands before its `=`, and what its service may do
pub record Line : Type 0 where
  pub call : List ℕ
  pub choices : List Choice

-- the lines of a case's services, and the text of those of the test's other services
pub record CaseWays : Type 0 where
  pub lines : List Line
  pub halts : List ℕ

-- the line of a service
abbrev pub line_of : Service → Line
line_of s = record { call = call_text s; choices = choices s }

-- what each line may do
abbrev pub choices_of : List Line → List (List Choice)
choices_of ls = map (λ l. l.choices) ls

-- the ways, in their order
abbrev pub ways : CaseWays → List Way
ways c = in_order (combinations (choices_of c.lines))

-- the case at a place of a test, where it has at most `MOST_WAYS` ways
abbrev pub within_limit : CaseWays → Option CaseWays
within_limit c = cond (nat_lt MOST_WAYS (length (combinations (choices_of c.lines)))) None (Some c)

-- the case at a place of a test, however many ways it has
abbrev pub case_of : Test → ℕ → CaseWays
case_of t case = record { lines = map line_of (services_of case t.services); halts = halts_text (others_of case t.services) }

abbrev pub ways_of : Test → ℕ → Option CaseWays
ways_of t case = within_limit (case_of t case)

-- ---- their scripts

-- every line, or those alone that tell a way from others: they are off, or take an alternative with a range
abbrev pub is_shown : Bool → Choice → Bool
is_shown only_telling c = not only_telling || (is_off c || c.is_ranged)

-- a line with what it does, if it is shown
abbrev pub line_text : Bool → Line → Choice → List ℕ
line_text only_telling l c = cond (is_shown only_telling c) (l.call ++ answers_text c.answers) []

abbrev pub lines_text : Bool → List Line → Way → List ℕ
lines_text only_telling (l ∷ ls) (c ∷ w) = line_text only_telling l c ++ lines_text only_telling ls w
lines_text only_telling _ _ = []

-- the lines of a way, those that are handed in, and, last, so that they take no call from these, the lines of the test's other services
abbrev pub script_text : CaseWays → List ℕ → Way → List ℕ
script_text c behind w = lines_text false c.lines w ++ (behind ++ (lacking_end behind ++ c.halts))

-- the scripts of the first ways, so many at most, with these lines behind each
abbrev pub scripts : CaseWays → ℕ → List ℕ → List (List ℕ)
scripts c most behind = map (script_text c behind) (take most (ways c))

abbrev pub shown_or_none : CaseWays → Option Way → List ℕ
shown_or_none c (Some w) = lines_text true c.lines w
shown_or_none c None = []

-- the lines that tell the way with this number, from 0, from other ways
abbrev pub unusual : CaseWays → ℕ → List ℕ
unusual c number = shown_or_none c (slice_get (ways c) number)
