-- What stands below the claims of a test that fail.
use Rattle.std.specs.Prelude.{◌≡◌, ◌++◌, ℕ, suc, List, [], ◌∷◌, Option, Some, None, Bool, false, IfSome, slice_get}
use Rattle.orc_rules.specs.Sites.{Table}
use Rattle.orc_rules.specs.Nodes.{Listing}
use Rattle.orc_site.specs.Script.{Says}
use Rattle.orc_load.specs.Loading.{IsProgramOf}
use Rattle.orc_claims.specs.declared.claim.Claim.{Claim}
use Rattle.orc_claims.specs.declared.verdict.Verdict.{Verdict}
use Rattle.orc_ways.specs.Values.{sites_of}
use Rattle.orc_cases.specs.Ways.{CaseWays, unusual}
use Rattle.orc_tally.specs.Sight.{Sight}
use Rattle.orc_tally.specs.Table.{case_of, way_of}
use Rattle.orc_tally.specs.declared.told.Failure.{Failure}
use Rattle.orc_tally.specs.declared.table.Counterexample.{Counterexample}
use Rattle.orc_tally.specs.declared.table.Counterexample.TheVariants as counterexample
use Rattle.orc_tally.specs.declared.table.Row.{Row}
use Rattle.orc_tally.specs.declared.table.Row.TheVariants as row
use Rattle.orc_findings.specs.Below.{failing_text, seen_text, way_text}
use Rattle.orc_findings.specs.Findings.{verdict_in}
use Rattle.orc_orders.specs.Trials.{IsMadeAgain, claim_sites, state_at}
use Rattle.orc_orders.specs.declared.trials.Run.{Run}
use Rattle.orc_orders.specs.declared.trials.Trials.{Trials}
use Rattle.orc_schedules.specs.Claimed.{FailsInOne}
use Rattle.orc_schedules.specs.Watch.{latest_of}
use Rattle.orc_run.specs.Whole.{IsScriptAt}
use Rattle.orc_run.specs.declared.scripts.CaseScripts.{CaseScripts}
use Rattle.orc_run.specs.declared.searched.Sighted.{Sighted}

-- ---- the way

-- the unusual lines of this way of a case; none where there is no such case
abbrev pub unusual_in : Option CaseWays → ℕ → List ℕ
unusual_in (Some c) way = unusual c way
unusual_in None way = []

-- the lines that tell the way of a failure from the other ways of its case
abbrev pub unusual_lines : List CaseWays → Counterexample → List ℕ
unusual_lines ways x = unusual_in (slice_get ways (case_of x)) (way_of x)

-- ---- a failure that an order showed

-- what claims see of a run
abbrev pub sight_in : Run → Sight
sight_in r = record { happened = r.happenings.happened; state = state_at r.played.summary.end; now = r.played.summary.now }

-- the run is one of the source's program with this script, and this is where the claim fails in it
pub record FailsAt (t : Trials) (script : List ℕ) (claim : ℕ) (v : Verdict) (r : Run) : Type 0 where
  pub made : IsMadeAgain t.source.now (sites_of t.sites.now) t.limit script r
  pub place : verdict_in (slice_get t.claims.now claim) (sight_in r) ≡ Some v

-- the line that says where a claim fails in it
abbrev pub failing_in : Trials → Run → Failure → List ℕ
failing_in t r f = failing_text t.sites.now r.happenings.happened r.played.summary.end r.played.summary.now f.verdict f.order

-- the lines of the way, and below them the line on where the claim fails in such a run, at the place of the failure; `more` only where an explanation
-- is asked for
pub record IsTrialDetail (t : Trials) (explains : Bool) (script lines : List ℕ) (number claim : ℕ) (f : Failure) (text : List ℕ) : Type 0 where
  pub run : Run
  pub fails : FailsAt t script claim f.verdict run
  pub more : List ℕ
  pub unasked : explains ≡ false → more ≡ []
  pub is : text ≡ (way_text number lines ++ failing_in t run f) ++ more

-- ---- a failure that a schedule shows

-- a search saw this of a run of the source's program with this script, which breaks the claim; it told times apart up to the latest that the claim
-- asks for
pub record IsSighted (t : Trials) (script : List ℕ) (claim : ℕ) (s : Sighted) : Type 0 where
  pub its : Claim
  pub is_its : slice_get t.claims.now claim ≡ Some its
  pub table : Table
  pub says : Says script table
  pub listing : Listing
  pub spells : IsProgramOf t.source.now table listing
  pub fails : FailsInOne listing table (claim_sites table (sites_of t.sites.now)) its s.seen
  pub latest : s.latest ≡ latest_of its

-- the line on what a search saw
abbrev pub sighted_text : Trials → Sighted → List ℕ
sighted_text t s = seen_text t.sites.now s.latest s.seen.happened.items s.seen.end s.seen.now

-- the same, empty where it saw nothing
abbrev pub sighted_or_none : Trials → Option Sighted → List ℕ
sighted_or_none t (Some s) = sighted_text t s
sighted_or_none t None = []

-- the lines of the way, and below them the line on what a search sees there; no line where it finds no such run
pub record IsScheduleDetail (t : Trials) (script lines : List ℕ) (number claim : ℕ) (text : List ℕ) : Type 0 where
  pub found : Option Sighted
  pub sighted : IfSome found (IsSighted t script claim)
  pub is : text ≡ way_text number lines ++ sighted_or_none t found

-- ---- below each

-- what stands below the failure with this number, of the claim at this place, in the way of this script
abbrev pub IsBelow : Trials → Bool → List ℕ → List ℕ → ℕ → ℕ → Counterexample → List ℕ → Type 0
IsBelow t explains script lines number claim (counterexample.Trial s) text = IsTrialDetail t explains script lines number claim s.failure text
IsBelow t explains script lines number claim (counterexample.Schedule b) text = IsScheduleDetail t script lines number claim text

-- the same by the ways of the cases and their scripts
abbrev pub IsDetail : Trials → Bool → List CaseWays → List CaseScripts → ℕ → ℕ → Counterexample → List ℕ → Type 0
IsDetail t explains ways scripts number claim x text = (script : List ℕ) × IsScriptAt scripts (case_of x) (way_of x) script × IsBelow t explains script (unusual_lines ways x) number claim x text

-- what stands below each failure of these rows, numbered from this number on
abbrev pub AreDetails : Trials → Bool → List CaseWays → List CaseScripts → ℕ → List Row → List (List ℕ) → Type 0
AreDetails t explains ways scripts number [] [] = Unit {0}
AreDetails t explains ways scripts number [] (d ∷ ds) = ⊥
AreDetails t explains ways scripts number (row.Fails claim x ∷ rs) [] = ⊥
AreDetails t explains ways scripts number (row.Fails claim x ∷ rs) (d ∷ ds) = IsDetail t explains ways scripts number claim x d × AreDetails t explains ways scripts (suc number) rs ds
AreDetails t explains ways scripts number (r ∷ rs) ds = AreDetails t explains ways scripts number rs ds
