-- The table that a test prints. A claim's section is the place of its case, or None for `always`.
use Rattle.std.specs.Prelude.{ℕ, zero, suc, List, [], ◌∷◌, ◌++◌, Option, Some, None, Bool, true, false, cond, not, ◌||◌, ◌&&◌, ◌+◌, ◌-◌, ◌%◌, codes, decimal, drop, take, is_some, length, nat_eq, nat_lt}
use Rattle.std.specs.Char.{is_ascii_whitespace}
use Rattle.std.specs.List.{prefix_len, suffix_len, slice_get}
use Rattle.orc_tally.specs.Shell.{word_of}
use Rattle.orc_tally.specs.declared.told.Told.{Told}
use Rattle.orc_tally.specs.declared.told.Failure.{Failure}
use Rattle.orc_tally.specs.declared.table.CaseReport.{CaseReport}
use Rattle.orc_tally.specs.declared.table.Counterexample.{Counterexample}
use Rattle.orc_tally.specs.declared.table.Counterexample.TheVariants as counterexample
use Rattle.orc_tally.specs.declared.table.Report.{Report}
use Rattle.orc_tally.specs.declared.table.Row.{Row}
use Rattle.orc_tally.specs.declared.table.Row.TheVariants as row
use Rattle.orc_tally.specs.declared.table.Searched.{Searched}
use Rattle.orc_tally.specs.declared.table.Searched.TheVariants as searched
use Rattle.orc_tally.specs.declared.table.Shown.{Shown}
use Rattle.orc_claims.specs.declared.claim.Claim.{Claim}
use Rattle.orc_claims.specs.declared.claim.Plain.{Plain}
use Rattle.orc_claims.specs.declared.claim.Plain.TheVariants.{Ends}
use Rattle.orc_ways.specs.declared.test.Case.{Case}
use Rattle.orc_ways.specs.declared.test.ClaimLine.{ClaimLine}

-- ---- rows

-- a claim of this case, or of `always`, is held against the runs of the case at this place
abbrev pub is_held : Option ℕ → ℕ → Bool
is_held (Some own) case = nat_eq own case
is_held None case = true

-- both stand in the same case, or both below `always`
abbrev pub is_same : Option ℕ → Option ℕ → Bool
is_same (Some a) (Some b) = nat_eq a b
is_same None None = true
is_same _ _ = false

-- what is told of a claim in a case that is held against its runs
abbrev pub told_here : Option ℕ → ℕ → ℕ → CaseReport → Option Told
told_here section claim case r = cond (is_held section case) (slice_get r.told.items claim) None

-- the first failure, if something is reported
abbrev pub failure_of : Option Told → Option Failure
failure_of (Some t) = t.first
failure_of None = None

abbrev pub is_tested : Option Told → Bool
is_tested (Some t) = t.tested
is_tested None = false

-- the failure in this case, or else what later cases have
abbrev pub shown_or : ℕ → Option Failure → Option Shown → Option Shown
shown_or case (Some f) other = Some (record { case = case; failure = f })
shown_or case None other = other

-- what shows that a claim fails: its first failure in the first case that has one, of the cases from a place on
abbrev pub shown_in : Option ℕ → ℕ → ℕ → List CaseReport → Option Shown
shown_in section claim case [] = None
shown_in section claim case (r ∷ rs) = shown_or case (failure_of (told_here section claim case r)) (shown_in section claim (suc case) rs)

-- whether it was put to the test in one of them
abbrev pub tested_in : Option ℕ → ℕ → ℕ → List CaseReport → Bool
tested_in section claim case [] = false
tested_in section claim case (r ∷ rs) = is_tested (told_here section claim case r) || tested_in section claim (suc case) rs

-- all ways of a case were tried, and no run was cut
abbrev pub is_full : CaseReport → Bool
is_full r = nat_eq r.tried r.ways && nat_eq r.cut 0

-- all ways were tried and no run was cut in each case against which a claim is held, of the cases from a place on
abbrev pub are_full : Option ℕ → ℕ → List CaseReport → Bool
are_full section case [] = true
are_full section case (r ∷ rs) = (not (is_held section case) || is_full r) && are_full section (suc case) rs

-- a claim failed in no run, and no run was left out: all schedules may keep it
abbrev pub is_open : List CaseReport → Option ℕ → ℕ → Bool
is_open rs section claim = not (is_some (shown_in section claim 0 rs)) && are_full section 0 rs

-- what came of the search for a claim
abbrev pub found_of : Option Searched → Searched
found_of (Some s) = s
found_of None = searched.No

-- the row of a claim that failed in no run, by what came of its search
abbrev pub unshown : ℕ → Bool → Searched → Row
unshown claim tested searched.No = row.Holds claim tested false
unshown claim tested searched.Whole = row.Holds claim tested true
unshown claim tested (searched.Breaks b) = row.Fails claim (counterexample.Schedule b)

abbrev pub row_or : ℕ → Bool → Searched → Option Shown → Row
row_or claim tested found (Some s) = row.Fails claim (counterexample.Trial s)
row_or claim tested found None = unshown claim tested found

-- the row of a claim
abbrev pub row_of : List CaseReport → List Searched → Option ℕ → ℕ → Row
row_of rs found section claim = row_or claim (tested_in section claim 0 rs) (found_of (slice_get found claim)) (shown_in section claim 0 rs)

-- the rows of the claims of a section, where these are the lines of claims from a place on
abbrev pub claim_rows : List CaseReport → List Searched → Option ℕ → ℕ → List ClaimLine → List Row
claim_rows rs found section claim [] = []
claim_rows rs found section claim (l ∷ ls) = cond (is_same l.case section) (row_of rs found section claim ∷ claim_rows rs found section (suc claim) ls) (claim_rows rs found section (suc claim) ls)

-- a claim says how a run ends, whatever happens in it
abbrev pub is_of_end : Plain → Bool
is_of_end (Ends halted quiet by) = true
is_of_end _ = false

abbrev pub is_end : Claim → Bool
is_end c = nat_eq (length c.conditions.items) 0 && is_of_end c.plain

-- one of these claims, each with its line, says so of the runs of the case at this place
abbrev pub has_end : ℕ → List Claim → List ClaimLine → Bool
has_end case (c ∷ cs) (l ∷ ls) = (is_held l.case case && is_end c) || has_end case cs ls
has_end case _ _ = false

-- The claim behind those that have a line is that a run ends by itself. It has a row in each case in which no claim says how runs end, where a run of
-- the case fails it.
abbrev pub cut_row : ℕ → Option Shown → List Row
cut_row claim (Some s) = row.Fails claim (counterexample.Trial s) ∷ []
cut_row claim None = []

-- the row of that claim for a case, if it has one
abbrev pub end_rows : List CaseReport → List Claim → List ClaimLine → ℕ → List Row
end_rows rs cs ls case = cond (has_end case cs ls) [] (cut_row (length ls) (shown_in (Some case) (length ls) 0 rs))

-- the rows of the cases from a place on
abbrev pub case_rows : List CaseReport → List Searched → List Claim → List ClaimLine → ℕ → List CaseReport → List Row
case_rows rs found cs ls case [] = []
case_rows rs found cs ls case (r ∷ more) = row.Case case ∷ (claim_rows rs found (Some case) 0 ls ++ (end_rows rs cs ls case ++ case_rows rs found cs ls (suc case) more))

-- all rows
abbrev pub rows : Report → List Row
rows r = case_rows r.cases.now r.searched.now r.test.now.claims.items r.test.now.claim_lines.items 0 r.cases.now ++ (row.Always ∷ claim_rows r.cases.now r.searched.now None 0 r.test.now.claim_lines.items)

-- how many of them tell of a claim
abbrev pub claims_told : List Row → ℕ
claims_told [] = 0
claims_told (row.Holds c tested whole ∷ rs) = suc (claims_told rs)
claims_told (row.Fails c s ∷ rs) = suc (claims_told rs)
claims_told (x ∷ rs) = claims_told rs

-- how many of them tell of a failure
abbrev pub failing : List Row → ℕ
failing [] = 0
failing (row.Fails c s ∷ rs) = suc (failing rs)
failing (x ∷ rs) = failing rs

-- what shows the failure with this number, from 1
abbrev pub failure_at : ℕ → List Row → Option Counterexample
failure_at n [] = None
failure_at n (row.Fails c s ∷ rs) = cond (nat_eq n 1) (Some s) (failure_at (n - 1) rs)
failure_at n (x ∷ rs) = failure_at n rs

-- ---- their text

-- what stands before a comment
abbrev pub before_comment : List ℕ → List ℕ
before_comment [] = []
before_comment (c ∷ []) = c ∷ []
before_comment (c ∷ d ∷ cs) = cond (nat_eq c 45 && nat_eq d 45) [] (c ∷ before_comment (d ∷ cs))

-- without the blanks round it
abbrev pub trimmed_end : List ℕ → List ℕ
trimmed_end t = take (length t - suffix_len is_ascii_whitespace t) t

abbrev pub trimmed : List ℕ → List ℕ
trimmed s = trimmed_end (drop (prefix_len is_ascii_whitespace s) s)

-- the name of a case
abbrev pub name_at : Option Case → List ℕ
name_at (Some c) = c.name.now
name_at None = []

-- the text of a claim: its line without a comment, and that of the one without a line
abbrev pub claim_at : Option ClaimLine → List ℕ
claim_at (Some l) = trimmed (before_comment l.text.now)
claim_at None = codes "ends Halted or Quiet"

-- a comma stands before so many digits, where these are some whole groups of three
abbrev pub is_grouped : ℕ → Bool
is_grouped n = nat_lt 0 n && nat_eq (n % 3) 0

-- digits with commas between groups of three
abbrev pub grouped : List ℕ → List ℕ
grouped [] = []
grouped (d ∷ ds) = d ∷ cond (is_grouped (length ds)) (44 ∷ grouped ds) (grouped ds)

-- a number as it is read: `1,728`
abbrev pub number_text : ℕ → List ℕ
number_text n = grouped (decimal n)

abbrev pub orders_text : ℕ → List ℕ
orders_text n = cond (nat_eq n 1) (codes ", 1 order") (codes ", " ++ (number_text n ++ codes " orders each"))

-- how many ways a case has, and how many of them were tried where it isn't all
abbrev pub ways_text : ℕ → ℕ → List ℕ
ways_text ways tried = codes ": " ++ cond (nat_lt tried ways) (number_text tried ++ (codes " of " ++ (number_text ways ++ codes " ways"))) (cond (nat_eq ways 1) (codes "1 way") (number_text ways ++ codes " ways"))

abbrev pub case_ways : Option CaseReport → List ℕ
case_ways (Some r) = ways_text r.ways r.tried
case_ways None = []

-- how many ways all cases have, and how many of them were tried
abbrev pub all_ways : List CaseReport → ℕ
all_ways [] = 0
all_ways (r ∷ rs) = r.ways + all_ways rs

abbrev pub all_tried : List CaseReport → ℕ
all_tried [] = 0
all_tried (r ∷ rs) = r.tried + all_tried rs

-- `always: 2,107 ways`
abbrev pub always_text : Report → List ℕ
always_text r = codes "always" ++ (ways_text (all_ways r.cases.now) (all_tried r.cases.now) ++ codes "\n")

-- `case slow: 378 ways, 20 orders each`
abbrev pub case_text : Report → ℕ → List ℕ
case_text r case = codes "case " ++ (name_at (slice_get r.test.now.cases.items case) ++ (case_ways (slice_get r.cases.now case) ++ (orders_text r.orders ++ codes "\n")))

abbrev pub failing_in : Option Told → ℕ
failing_in (Some t) = t.failing
failing_in None = 0

abbrev pub comma : Bool → List ℕ
comma true = codes ""
comma false = codes ", "

-- `27 of 378 ways of slow`
abbrev pub share : ℕ → ℕ → List ℕ → List ℕ
share failing tried name = number_text failing ++ (codes " of " ++ (number_text tried ++ (codes " ways of " ++ name)))

-- in how many ways a claim fails, of each case from a place on in which it does: `27 of 378 ways of slow, 5 of 48 ways of anything`
abbrev pub shares : List Case → Option ℕ → ℕ → Bool → ℕ → List CaseReport → List ℕ
shares cs section claim is_first case [] = []
shares cs section claim is_first case (r ∷ rs) =
    cond (nat_lt 0 (failing_in (told_here section claim case r)))
    (comma is_first ++ (share (failing_in (told_here section claim case r)) r.tried (name_at (slice_get cs case)) ++ shares cs section claim false (suc case) rs))
    (shares cs section claim is_first (suc case) rs)

-- the section of a claim; the one without a line counts as one of `always` here
abbrev pub section_of : Option ClaimLine → Option ℕ
section_of (Some l) = l.case
section_of None = None

-- the section of a claim that fails in this case; that of the one without a line is this case
abbrev pub section_in : ℕ → Option ClaimLine → Option ℕ
section_in case (Some l) = l.case
section_in case None = Some case

-- the end of the line of a claim that holds: whether it was put to the test, and whether every schedule keeps it
abbrev pub note : Bool → List ℕ
note true = codes "\n"
note false = codes "    (never put to the test)\n"

abbrev pub whole_note : Bool → List ℕ
whole_note true = codes "    (every schedule)\n"
whole_note false = codes "    (every schedule; never put to the test)\n"

-- the line of a claim that holds,
abbrev pub holds_text : Report → ℕ → Bool → Bool → List ℕ
holds_text r claim tested whole = codes "  ok     " ++ (claim_at (slice_get r.test.now.claim_lines.items claim) ++ cond whole (whole_note tested) (note tested))

-- of one that fails in a run: in how many ways; and of one that a schedule breaks which no order showed: in which case
abbrev pub schedule_text : Report → ℕ → List ℕ
schedule_text r case = codes "a way of " ++ (name_at (slice_get r.test.now.cases.items case) ++ codes ", in a schedule that no order showed")

abbrev pub share_text : Report → ℕ → Counterexample → List ℕ
share_text r claim (counterexample.Trial s) = shares r.test.now.cases.items (section_in s.case (slice_get r.test.now.claim_lines.items claim)) claim true 0 r.cases.now
share_text r claim (counterexample.Schedule b) = schedule_text r b.case

-- the line of a claim that fails
abbrev pub fails_text : Report → ℕ → Counterexample → List ℕ
fails_text r claim x = codes "  FAILS  " ++ (claim_at (slice_get r.test.now.claim_lines.items claim) ++ (codes "    " ++ (share_text r claim x ++ codes "\n")))

-- the line of a row
abbrev pub row_text : Report → Row → List ℕ
row_text r (row.Case case) = case_text r case
row_text r row.Always = always_text r
row_text r (row.Holds claim tested whole) = holds_text r claim tested whole
row_text r (row.Fails claim x) = fails_text r claim x

-- the lines of rows, each failure with its details below it
abbrev pub lines : Report → List (List ℕ) → List Row → List ℕ
lines r ds [] = []
lines r (d ∷ ds) (row.Fails claim x ∷ xs) = fails_text r claim x ++ (d ++ lines r ds xs)
lines r ds (x ∷ xs) = row_text r x ++ lines r ds xs

-- how many claims fail
abbrev pub sum_text : ℕ → ℕ → List ℕ
sum_text zero claims = codes "ok: " ++ (number_text claims ++ codes " claims\n")
sum_text (suc n) claims = codes "fails: " ++ (number_text (suc n) ++ (codes " of " ++ (number_text claims ++ codes " claims\n")))

-- ---- the place of a counterexample

abbrev pub case_of : Counterexample → ℕ
case_of (counterexample.Trial s) = s.case
case_of (counterexample.Schedule b) = b.case

abbrev pub way_of : Counterexample → ℕ
way_of (counterexample.Trial s) = s.failure.way
way_of (counterexample.Schedule b) = b.way

-- ---- the whole

-- the first line: `checkout.test, on checkout.orc`
abbrev pub title_text : List ℕ → List ℕ → List ℕ
title_text source test = test ++ (codes ", on " ++ (source ++ codes "\n"))

-- the command that shows the first failure, as a shell takes it
abbrev pub call_text : List ℕ → List ℕ → List ℕ → List ℕ
call_text source test options = codes "orc test " ++ (word_of source ++ (codes " " ++ (word_of test ++ (options ++ codes " --fail 1"))))

-- which commands show it
abbrev pub commands_text : List ℕ → List ℕ → List ℕ → List ℕ
commands_text source test options = codes "[1] is shown by: " ++ (call_text source test options ++ (codes " > way.script\n                 " ++ (call_text source test options ++ (codes " --journal | orc draw " ++ (word_of source ++ codes " - --script way.script --text\n")))))

-- the last lines, where a claim fails
abbrev pub hint_text : List ℕ → List ℕ → List ℕ → ℕ → List ℕ
hint_text source test options zero = []
hint_text source test options (suc n) = commands_text source test options

-- of the program and the test that a command line names so, with these options
abbrev pub table : List ℕ → List ℕ → List ℕ → Report → List (List ℕ) → List ℕ
table source test options r ds = title_text source test ++ (lines r ds (rows r) ++ (sum_text (failing (rows r)) (claims_told (rows r)) ++ hint_text source test options (failing (rows r))))
