-- What testing a source's program does: judging the claims of a test on its runs.
use Rattle.std.specs.Prelude.{◌≡◌, ◌++◌, ◌-◌, ℕ, suc, List, [], ◌∷◌, Bool, None, Some, cond, length, nat_eq, true}
use Rattle.std.specs.List.{AllZip}
use Rattle.std.specs.declared.option.Option.{Option}
use Rattle.std.specs.Io.KnownBytes.{Keeps, Appends}
use Rattle.orc_rules.specs.Sites.{Table}
use Rattle.orc_site.specs.Script.{Says}
use Rattle.orc_ways.specs.Drafting.{test_of}
use Rattle.orc_ways.specs.Drafts.{Test as DraftedTest}
use Rattle.orc_ways.specs.Finishing.{Says as SaysTest}
use Rattle.orc_ways.specs.declared.test.Test.{Test}
use Rattle.orc_claims.specs.declared.claim.Claim.{Claim}
use Rattle.orc_claims.specs.declared.claim.Plain.TheVariants.{Ends}
use Rattle.orc_cases.specs.Ways.{CaseWays, scripts, ways, ways_of}
use Rattle.orc_orders.specs.Trials.{Tells, texts}
use Rattle.orc_orders.specs.declared.trials.TrialFault.{TrialFault}
use Rattle.orc_orders.specs.declared.trials.TrialFault.TheVariants as trial
use Rattle.orc_orders.specs.declared.trials.Trials.{Trials}
use Rattle.orc_tally.specs.Table.{case_of, failing, failure_at, rows, table, way_of}
use Rattle.orc_tally.specs.declared.table.CaseReport.{CaseReport}
use Rattle.orc_tally.specs.declared.table.Counterexample.{Counterexample}
use Rattle.orc_tally.specs.declared.table.Report.{Report}
use Rattle.orc_tally.specs.declared.table.Row.{Row}
use Rattle.orc_tally.specs.declared.table.Row.TheVariants as row
use Rattle.orc_cli.specs.declared.job.Shown.{Shown}
use Rattle.orc_cli.specs.declared.job.Shown.TheVariants as shown
use Rattle.orc_cli.specs.declared.job.TestOptions.{TestOptions}
use Rattle.orc_run.specs.Called.{Named, options_text}
use Rattle.orc_output.specs.Output.{AppendsPrefix}
use Rattle.orc_run.specs.Details.{AreDetails}
use Rattle.orc_run.specs.FailingRuns.{HasShownFailure}
use Rattle.orc_run.specs.Running.{IsOwnOf, of_load, KeepsOr}
use Rattle.orc_run.specs.Whole.{AreSaid, IsScriptAt}
use Rattle.orc_run.specs.declared.faults.RunFault.{RunFault}
use Rattle.orc_run.specs.declared.faults.RunFault.TheVariants as fault
use Rattle.orc_run.specs.declared.scripts.CaseScripts.{CaseScripts}
use Rattle.orc_run.specs.declared.test_command.Untested.{Untested}
use Rattle.orc_run.specs.declared.test_command.Untested.TheVariants as untested

-- these are the ways of the cases of a test, from the case at this place on
abbrev pub AreWays : DraftedTest → ℕ → List CaseWays → Type 0
AreWays t case [] = Unit {0}
AreWays t case (c ∷ cs) = (ways_of t case ≡ Some c) × AreWays t (suc case) cs

-- the scripts of the first ways of a case, so many at most, each with these lines behind it
pub record AreScripts (most : ℕ) (behind : List ℕ) (c : CaseWays) (s : CaseScripts) : Type 0 where
  pub count : s.count ≡ length (ways c)
  pub first : texts s.scripts.items ≡ scripts c most behind

-- what is reported of a case is that of the trials with these scripts
abbrev pub IsTried : Trials → CaseScripts → CaseReport → Type 0
IsTried t s r = Tells t (texts s.scripts.items) (record { ways = r.tried; told = r.told; cut = r.cut }) × (r.ways ≡ s.count)

-- a claim that a run ends by itself, whatever happens in it
pub record IsOfEnd (c : Claim) : Type 0 where
  pub always : c.conditions.items ≡ []
  pub plain : c.plain ≡ Ends true true None

-- the test whose claims are judged: the one that was read, with one claim more, that a run ends by itself
pub record IsJudged (read held : Test) : Type 0 where
  pub sites : held.sites ≡ read.sites
  pub services : held.services ≡ read.services
  pub lines : held.claim_lines ≡ read.claim_lines
  pub cases : held.cases ≡ read.cases
  pub end : Claim
  pub of_end : IsOfEnd end
  pub claims : held.claims.items ≡ read.claims.items ++ end ∷ []

-- the trials are those of the reported test and the options
pub record AreOf (source : List ℕ) (o : TestOptions) (r : Report) (t : Trials) : Type 0 where
  pub of_source : t.source.now ≡ source
  pub of_sites : t.sites.now ≡ r.test.now.sites.items
  pub of_claims : t.claims.now ≡ r.test.now.claims.items
  pub each : t.orders ≡ o.orders
  pub most : t.limit ≡ o.limit

-- What is reported of a test: the test is what the text says, and the claim that runs end by themselves; these are the ways of its cases, and the
-- scripts of the first of them, as many as are to be tried; what is reported is that of the trials of these ways, and what is said of all their
-- schedules is true.
pub record IsReport (source text script : List ℕ) (o : TestOptions) (ways : List CaseWays) (scripts : List CaseScripts) (trials : Trials) (r : Report) : Type 0 where
  pub others : Table
  pub says : Says script others
  pub read : Test
  pub reads : SaysTest text others (test_of read)
  pub judged : IsJudged read r.test.now
  pub cases : AreWays (test_of read) 0 ways
  pub every : length ways ≡ length read.cases.items
  pub first : AllZip (AreScripts o.ways script) ways scripts
  pub of_test : AreOf source o r trials
  pub tried : AllZip (IsTried trials) scripts r.cases.now
  pub orders : r.orders ≡ o.orders
  pub schedules : AreSaid trials r.test.now.claim_lines.items scripts r.cases.now r.searched.now

-- the script of the way in which a failure is
abbrev pub IsScript : List CaseScripts → Counterexample → List ℕ → Type 0
IsScript scripts x text = IsScriptAt scripts (case_of x) (way_of x) text

-- the claim of the failure with this number, from 1
abbrev pub failing_claim : ℕ → List Row → ℕ
failing_claim n [] = 0
failing_claim n (row.Fails c x ∷ rs) = cond (nat_eq n 1) c (failing_claim (n - 1) rs)
failing_claim n (r ∷ rs) = failing_claim n rs

-- the table of a test, with these names and options in its commands, and these details below its failures
abbrev pub table_of : Named → TestOptions → Report → List (List ℕ) → List ℕ
table_of names o r ds = table names.source names.test (options_text names.script o) r ds

-- what is written of it: its table, with the details below each failure; or the script of the way that shows one failure, or the journal of a run of
-- that way in which its claim fails
abbrev pub Writes : Trials → Bool → List CaseWays → Named → TestOptions → List CaseScripts → Report → Shown → Option (List ℕ) → Option (List ℕ) → Type 0
Writes t explains ways names o scripts r shown.Table old new = (details : List (List ℕ)) × AreDetails t explains ways scripts 1 (rows r) details × Appends old new (table_of names o r details)
Writes t explains ways names o scripts r (shown.Script n) old new = (x : Counterexample) × (text : List ℕ) × (failure_at n (rows r) ≡ Some x) × IsScript scripts x text × Appends old new text
Writes t explains ways names o scripts r (shown.Journal n) old new = (x : Counterexample) × (script : List ℕ) × (failure_at n (rows r) ≡ Some x) × IsScript scripts x script × HasShownFailure t script (failing_claim n (rows r)) old new

-- so many claims of the test fail, and what is wanted of it was written, with explanations where they are asked for
abbrev pub HasFailing : List ℕ → List ℕ → List ℕ → Named → TestOptions → Bool → Option (List ℕ) → Option (List ℕ) → ℕ → Type 0
HasFailing source text script names o explains old new number = (ways : List CaseWays) × (scripts : List CaseScripts) × (t : Trials) × (r : Report) × IsReport source text script o ways scripts t r × Writes t explains ways names o scripts r o.shown old new × (number ≡ failing (rows r))

-- at a fault nothing was written, or at a write fault a prefix of some text
abbrev pub LeavesUntested : Option (List ℕ) → Option (List ℕ) → Untested → Type 0
LeavesUntested old new (untested.Fault f) = KeepsOr ((text : List ℕ) × AppendsPrefix old new text) old new f
LeavesUntested old new _ = Keeps old new

-- a trial's fault as one of a run
abbrev pub of_trial : TrialFault → RunFault
of_trial (trial.Load f) = of_load f
of_trial (trial.Engine f) = fault.Engine f

-- a fault for which the engine itself is to blame
abbrev pub IsOwnFault : Untested → Type 0
IsOwnFault (untested.Fault f) = IsOwnOf f
IsOwnFault (untested.NoFailure n) = ⊥
IsOwnFault (untested.NoJournal n) = ⊥
