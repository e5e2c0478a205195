-- What the claims of a test that stand below `always` say of a run.
use Rattle.std.specs.Prelude.{ℕ, suc, List, [], ◌∷◌, ◌++◌, Option, Some, None, Bool, cond, ◌&&◌, not, is_some, map, codes}
use Rattle.std.specs.List.{count_by}
use Rattle.orc_rules.specs.declared.entry.State.{State}
use Rattle.orc_rules.specs.declared.entry.State.TheVariants as states
use Rattle.orc_claims.specs.Verdicts.{says_so}
use Rattle.orc_claims.specs.declared.claim.Claim.{Claim}
use Rattle.orc_claims.specs.declared.verdict.Judged.{Judged}
use Rattle.orc_claims.specs.declared.verdict.Verdict.{Verdict}
use Rattle.orc_outcome.specs.declared.end.End.TheVariants as ends
use Rattle.orc_tally.specs.Sight.{Sight, fails, said}
use Rattle.orc_tally.specs.Table.{claim_at, note, sum_text}
use Rattle.orc_ways.specs.declared.test.ClaimLine.{ClaimLine}
use Rattle.orc_ways.specs.declared.test.SiteName.{SiteName}
use Rattle.orc_ways.specs.declared.test.Test.{Test}
use Rattle.orc_findings.specs.Course.{place_text}
use Rattle.orc_findings.specs.declared.course.Standing.{Standing}
use Rattle.orc_findings.specs.declared.course.Standing.TheVariants as standing
use Rattle.orc_findings.specs.declared.findings.Seen.{Seen}

-- what claims see of the run
abbrev pub sight_of : Seen → Sight
sight_of s = record { happened = s.happenings.now; state = s.state; now = s.time }

-- the claim of this line stands below `always`
abbrev pub is_always : ClaimLine → Bool
is_always l = not (is_some l.case)

-- what is said of where a claim fails, if there is one
abbrev pub verdict_in : Option Claim → Sight → Option Verdict
verdict_in (Some c) s = Some (said c s).verdict
verdict_in None s = None

-- the verdict of the first one
abbrev pub first_verdict : List Judged → Option Verdict
first_verdict [] = None
first_verdict (j ∷ js) = Some j.verdict

-- ---- where a claim fails

-- how a run stands whose program is in this state
abbrev pub standing_of : State → Standing
standing_of states.Halted = standing.Ended ends.Halted
standing_of states.Quiet = standing.Ended ends.Quiet
standing_of states.Running = standing.Running

-- ---- the rows

-- the line of a claim, and below one that fails where it does
abbrev pub row_text : List SiteName → Sight → ClaimLine → Judged → List ℕ
row_text ss s l j = cond (says_so j.verdict) (codes "  ok     " ++ (claim_at (Some l) ++ note j.tested))
    (codes "  FAILS  " ++ (claim_at (Some l) ++ (codes "\n         " ++ (place_text ss (standing_of s.state) s.happened s.now j.verdict ++ codes "\n"))))

-- a row for each claim below `always`
abbrev pub rows_text : List SiteName → Sight → List ClaimLine → List Judged → List ℕ
rows_text ss s [] js = []
rows_text ss s (l ∷ ls) [] = []
rows_text ss s (l ∷ ls) (j ∷ js) = cond (is_always l) (row_text ss s l j ++ rows_text ss s ls js) (rows_text ss s ls js)

-- how many of these claims below `always` fail
abbrev pub failing_of : Sight → List ClaimLine → List Claim → ℕ
failing_of s [] cs = 0
failing_of s (l ∷ ls) [] = 0
failing_of s (l ∷ ls) (c ∷ cs) = cond (is_always l && fails c s) (suc (failing_of s ls cs)) (failing_of s ls cs)

-- how many claims below `always` fail
abbrev pub failing : Test → Sight → ℕ
failing t s = failing_of s t.claim_lines.items t.claims.items

-- the rows, and how many of these claims fail
abbrev pub findings_text : Test → Sight → List ℕ
findings_text t s = rows_text t.sites.items s t.claim_lines.items (map (λ c. said c s) t.claims.items) ++ sum_text (failing t s) (count_by is_always t.claim_lines.items)

-- how many fail, by what was said of the claims
abbrev pub unsaid : List ClaimLine → List Judged → ℕ
unsaid [] js = 0
unsaid (l ∷ ls) [] = 0
unsaid (l ∷ ls) (j ∷ js) = cond (is_always l && not (says_so j.verdict)) (suc (unsaid ls js)) (unsaid ls js)
