-- What stands below a claim of a test that fails.
use Rattle.std.specs.Prelude.{◌^◌, ◌-◌, ℕ, zero, List, [], ◌∷◌, ◌++◌, Bool, true, false, cond, ◌||◌, codes, decimal, drop, length, nat_eq, nat_lt}
use Rattle.orc_outcome.specs.declared.end.End.{End}
use Rattle.orc_claims.specs.declared.happening.Happening.{Happening}
use Rattle.orc_claims.specs.declared.verdict.Verdict.{Verdict}
use Rattle.orc_ways.specs.declared.test.SiteName.{SiteName}
use Rattle.orc_findings.specs.Course.{end_word, place_text}
use Rattle.orc_findings.specs.Texts.{happening_text}
use Rattle.orc_findings.specs.declared.course.Standing.TheVariants as standing

-- ---- the lines of its way

-- what stands before a line that has no number
abbrev pub blanks : List ℕ
blanks = codes "           "

-- what stands before the first line: the number of the failure, and blanks up to where lines begin
abbrev pub padded : List ℕ → List ℕ
padded number = number ++ drop (length number) blanks

abbrev pub number_text : ℕ → List ℕ
number_text n = padded (codes "    [" ++ (decimal n ++ codes "]"))

-- lines with this before each, where a line begins
abbrev pub headed : Bool → List ℕ → List ℕ → List ℕ
headed begins head [] = []
headed true head (c ∷ cs) = head ++ (c ∷ headed (nat_eq c 10) head cs)
headed false head (c ∷ cs) = c ∷ headed (nat_eq c 10) head cs

-- the lines of the way: the first one is behind the number, each other one behind blanks
abbrev pub lines_or_usual : List ℕ → List ℕ
lines_or_usual [] = codes "all services as usual\n"
lines_or_usual (c ∷ cs) = headed false blanks (c ∷ cs)

-- of the failure with this number, where these lines of its way aren't usual
abbrev pub way_text : ℕ → List ℕ → List ℕ
way_text number lines = number_text number ++ lines_or_usual lines

-- ---- where it fails

-- what stands before the lines below these
abbrev pub margin : List ℕ
margin = codes "         "

-- the line: where the claim fails in this run, and the number of its order
abbrev pub failing_text : List SiteName → List Happening → End → ℕ → Verdict → ℕ → List ℕ
failing_text ss hs end now v order = margin ++ (place_text ss (standing.Ended end) hs now v ++ (codes " (order " ++ (decimal order ++ codes ")\n")))

-- ---- what a claim saw of a run

-- a time, as far as the claim tells times apart: the latest one stands for all from it on
abbrev pub time_text : ℕ → ℕ → List ℕ
time_text latest time = cond (nat_lt time latest || nat_eq latest (2 ^ 64 - 1)) (codes "time " ++ decimal time) (codes "a time over " ++ decimal (latest - 1))

-- a time before what happened, and behind an end; nothing if the claim tells no times apart
abbrev pub timed : ℕ → ℕ → List ℕ
timed zero time = []
timed latest time = time_text latest time ++ codes ": "

abbrev pub at_time : ℕ → ℕ → List ℕ
at_time zero time = []
at_time latest time = codes " at " ++ time_text latest time

-- what happened, each with its time
abbrev pub seen_one : List SiteName → ℕ → Happening → List ℕ
seen_one ss latest h = timed latest h.time ++ (happening_text ss h.what ++ codes ", ")

abbrev pub seen_all : List SiteName → ℕ → List Happening → List ℕ
seen_all ss latest [] = []
seen_all ss latest (h ∷ hs) = seen_one ss latest h ++ seen_all ss latest hs

-- the line: what was seen, and how the run ended
abbrev pub seen_text : List SiteName → ℕ → List Happening → End → ℕ → List ℕ
seen_text ss latest hs end now = margin ++ (codes "saw: " ++ (seen_all ss latest hs ++ (end_word end ++ (at_time latest now ++ codes "\n"))))
