-- Why nothing is written of a test.
use Rattle.std.specs.Prelude.{◌≡◌, ◌⊎◌, ◌++◌, ℕ, List, ◌∷◌, Some, None, length, slice_get}
use Rattle.std.specs.List.{AllZip, flat_map}
use Rattle.orc_rules.specs.Sites.{Table}
use Rattle.orc_syntax.specs.Tree.{Source}
use Rattle.orc_site.specs.Script.{Says, IsFault as IsScriptFault}
use Rattle.orc_load.specs.Loading.{IsLoadFault, SpellsTree}
use Rattle.orc_load.specs.declared.fault.LoadFault.{LoadFault}
use Rattle.orc_load.specs.declared.fault.LoadFault.TheVariants as load
use Rattle.orc_scheduler.specs.declared.fault.EngineFault.{EngineFault}
use Rattle.orc_scheduler.specs.declared.fault.EngineFault.TheVariants as engine
use Rattle.orc_engine.specs.Ranges.{IsInRange}
use Rattle.orc_ways.specs.Drafts.{Case, Test as DraftedTest}
use Rattle.orc_ways.specs.Finishing.{IsFault as IsTestFault, Says as SaysTest}
use Rattle.orc_ways.specs.declared.fault.TestFault.{TestFault}
use Rattle.orc_ways.specs.declared.fault.TestFault.TheVariants as unread
use Rattle.orc_ways.specs.declared.test.Test.{Test}
use Rattle.orc_cases.specs.Ways.{CaseWays, scripts, ways_of}
use Rattle.orc_orders.specs.Trials.{texts}
use Rattle.orc_orders.specs.TrialFaults.{IsFirstUnloaded}
use Rattle.orc_orders.specs.declared.trials.Trials.{Trials}
use Rattle.orc_tally.specs.Table.{failure_at, rows}
use Rattle.orc_tally.specs.declared.table.Broken.{Broken}
use Rattle.orc_tally.specs.declared.table.Counterexample.TheVariants as counterexample
use Rattle.orc_tally.specs.declared.table.Report.{Report}
use Rattle.orc_tally.specs.declared.table.Row.{Row}
use Rattle.orc_cli.specs.declared.job.Shown.{Shown}
use Rattle.orc_cli.specs.declared.job.Shown.TheVariants as shown
use Rattle.orc_cli.specs.declared.job.TestOptions.{TestOptions}
use Rattle.orc_run.specs.Claimed.{IsUnreadTest}
use Rattle.orc_run.specs.Tested.{AreWays, IsReport, IsTried}
use Rattle.orc_run.specs.Whole.{AreSaid}
use Rattle.orc_run.specs.declared.faults.RunFault.{RunFault}
use Rattle.orc_run.specs.declared.faults.RunFault.TheVariants as fault
use Rattle.orc_run.specs.declared.scripts.CaseScripts.{CaseScripts}
use Rattle.orc_run.specs.declared.test_command.Untested.{Untested}
use Rattle.orc_run.specs.declared.test_command.Untested.TheVariants as untested

-- ---- the cause of each fault

-- the source spells a tree without a fault, and the text says this test, beside the sites that the script says
pub record IsKnown (source text script : List ℕ) (t : DraftedTest) : Type 0 where
  pub spells : (s : Source) × SpellsTree source s
  pub others : Table
  pub says : Says script others
  pub reads : SaysTest text others t

-- this is the first case of a test that has too many ways, and stands in this line
pub record IsFirstMany (t : DraftedTest) (line : ℕ) : Type 0 where
  pub before : List CaseWays
  pub ways : AreWays t 0 before
  pub many : ways_of t (length before) ≡ None
  pub case : Case
  pub here : slice_get t.cases (length before) ≡ Some case
  pub place : case.line ≡ line

-- the text's test is known, and its cases have these ways
pub record IsCounted (source text script : List ℕ) (ways : List CaseWays) : Type 0 where
  pub test : DraftedTest
  pub known : IsKnown source text script test
  pub cases : AreWays test 0 ways
  pub every : length ways ≡ length test.cases

-- the scripts of the first ways of each case, so many of a case at most, with these lines behind each
abbrev pub all_scripts : ℕ → List ℕ → List CaseWays → List (List ℕ)
all_scripts most behind ways = flat_map (λ c. scripts c most behind) ways

-- of the ways that are to be tried there is a first one with whose script no program is loaded, for this fault
abbrev pub IsUntriable : List ℕ → List ℕ → List ℕ → TestOptions → LoadFault → Type 0
IsUntriable source text script o f = (ways : List CaseWays) × IsCounted source text script ways × IsFirstUnloaded source (all_scripts o.ways script ways) f

-- the engine's fault where so many workers make runs within this limit: one of both is out of range, or memory was refused; it is never to blame
-- itself
abbrev pub IsEngineCause : ℕ → ℕ → EngineFault → Type 0
IsEngineCause workers limit engine.Range = IsInRange workers limit → ⊥
IsEngineCause workers limit engine.Memory = Unit {0}
IsEngineCause workers limit engine.Broken = ⊥
IsEngineCause workers limit (engine.Site number) = ⊥

-- the test was tried, and this is reported of it
abbrev pub HasReport : List ℕ → List ℕ → List ℕ → TestOptions → Report → Type 0
HasReport source text script o r = (ways : List CaseWays) × (scripts : List CaseScripts) × (t : Trials) × IsReport source text script o ways scripts t r

-- the failure with this number is to be shown
abbrev pub IsToShow : Shown → ℕ → Type 0
IsToShow shown.Table n = ⊥
IsToShow (shown.Script m) n = m ≡ n
IsToShow (shown.Journal m) n = m ≡ n

-- the journal of the failure with this number is to be shown
abbrev pub IsJournalToShow : Shown → ℕ → Type 0
IsJournalToShow shown.Table n = ⊥
IsJournalToShow (shown.Script m) n = ⊥
IsJournalToShow (shown.Journal m) n = m ≡ n

-- why the test isn't one, where the source's text and the script have no fault; or its first case with too many ways
abbrev pub IsTestCause : List ℕ → List ℕ → List ℕ → TestFault → Type 0
IsTestCause source text script (unread.Ways line) = (t : DraftedTest) × IsKnown source text script t × IsFirstMany t line
IsTestCause source text script f = IsUnreadTest source text script (fault.Test f)

-- Why nothing is told of a test. The faults of the source's text come first, then those of the script, then those of the test, and then those of the
-- first way with which no program is loaded. Before anything is written all ways were tried.
abbrev pub IsTestFaultOf : List ℕ → List ℕ → List ℕ → TestOptions → RunFault → Type 0
IsTestFaultOf source text script o (fault.Syntax f) = IsUnreadTest source text script (fault.Syntax f)
IsTestFaultOf source text script o (fault.Script f) = IsUnreadTest source text script (fault.Script f) ⊎ IsUntriable source text script o (load.Script f)
IsTestFaultOf source text script o (fault.Test f) = IsTestCause source text script f
IsTestFaultOf source text script o (fault.Scope f) = IsUntriable source text script o (load.Scope f)
IsTestFaultOf source text script o (fault.Engine f) = (ways : List CaseWays) × IsCounted source text script ways × IsEngineCause o.workers o.limit f
IsTestFaultOf source text script o (fault.Write w) = (r : Report) × HasReport source text script o r
IsTestFaultOf source text script o (fault.Journal f) = ⊥
IsTestFaultOf source text script o (fault.Check f) = ⊥

-- the failure with this number is one that no order showed
abbrev pub IsOfSchedule : List Row → ℕ → Type 0
IsOfSchedule rs n = (b : Broken) × (failure_at n rs ≡ Some (counterexample.Schedule b))

-- why nothing is written: for such a fault; or the test was tried, and fewer failures are reported than the number of the one that is to be shown, or
-- that one is of a schedule that no order showed, and its journal is wanted
abbrev pub IsUntestedFor : List ℕ → List ℕ → List ℕ → TestOptions → Untested → Type 0
IsUntestedFor source text script o (untested.Fault f) = IsTestFaultOf source text script o f
IsUntestedFor source text script o (untested.NoFailure n) = IsToShow o.shown n × ((r : Report) × HasReport source text script o r × (failure_at n (rows r) ≡ None))
IsUntestedFor source text script o (untested.NoJournal n) = IsJournalToShow o.shown n × ((r : Report) × HasReport source text script o r × IsOfSchedule (rows r) n)

-- ---- what the steps say of it

-- memory was refused for what is tried
abbrev pub IsNoMemory : Untested → Type 0
IsNoMemory (untested.Fault (fault.Engine engine.Memory)) = Unit {0}
IsNoMemory _ = ⊥

-- memory was refused for what is written, or the output isn't taken whole
abbrev pub IsNoText : Untested → Type 0
IsNoText (untested.Fault (fault.Write w)) = Unit {0}
IsNoText _ = ⊥

-- the script's text is no script, for this fault
abbrev pub IsNoScript : List ℕ → Untested → Type 0
IsNoScript script (untested.Fault (fault.Script f)) = IsScriptFault script f
IsNoScript script _ = ⊥

-- the text is no test, beside these sites
abbrev pub IsNoTest : List ℕ → Table → Untested → Type 0
IsNoTest text others (untested.Fault (fault.Test f)) = IsTestFault text others f
IsNoTest text others _ = ⊥

-- a case has too many ways, or memory was refused
abbrev pub IsUncounted : DraftedTest → Untested → Type 0
IsUncounted t (untested.Fault (fault.Test unread.Memory)) = Unit {0}
IsUncounted t (untested.Fault (fault.Test (unread.Ways line))) = IsFirstMany t line
IsUncounted t _ = ⊥

-- the scripts of the cases
abbrev pub all_texts : List CaseScripts → List (List ℕ)
all_texts ss = flat_map (λ s. texts s.scripts.items) ss

-- why so many workers don't try all of these scripts: with the first one with which no program is loaded this is why; or the engine is at fault
abbrev pub AreUntried : List ℕ → ℕ → ℕ → List (List ℕ) → Untested → Type 0
AreUntried source workers limit scripts (untested.Fault (fault.Syntax f)) = IsFirstUnloaded source scripts (load.Syntax f)
AreUntried source workers limit scripts (untested.Fault (fault.Script f)) = IsFirstUnloaded source scripts (load.Script f)
AreUntried source workers limit scripts (untested.Fault (fault.Scope f)) = IsFirstUnloaded source scripts (load.Scope f)
AreUntried source workers limit scripts (untested.Fault (fault.Engine f)) = IsEngineCause workers limit f
AreUntried source workers limit scripts _ = ⊥

-- this script is one of them
pub record IsAmong (scripts : List (List ℕ)) (script : List ℕ) : Type 0 where
  pub front : List (List ℕ)
  pub back : List (List ℕ)
  pub place : scripts ≡ front ++ script ∷ back

-- with one of these scripts no program is loaded, for this fault
abbrev pub HasUnloaded : List ℕ → List (List ℕ) → LoadFault → Type 0
HasUnloaded source scripts f = (script : List ℕ) × IsAmong scripts script × IsLoadFault source script f

-- why so many workers don't make a run with this script again, or what it shows isn't written
abbrev pub IsUnshown : List ℕ → ℕ → ℕ → List ℕ → Untested → Type 0
IsUnshown source workers limit script (untested.Fault (fault.Syntax f)) = IsLoadFault source script (load.Syntax f)
IsUnshown source workers limit script (untested.Fault (fault.Script f)) = IsLoadFault source script (load.Script f)
IsUnshown source workers limit script (untested.Fault (fault.Scope f)) = IsLoadFault source script (load.Scope f)
IsUnshown source workers limit script (untested.Fault (fault.Engine f)) = IsEngineCause workers limit f
IsUnshown source workers limit script (untested.Fault (fault.Write w)) = Unit {0}
IsUnshown source workers limit script _ = ⊥

-- one of these causes; or no run of the failure with this number was found
abbrev pub IsUnfound : List ℕ → ℕ → List ℕ → ℕ → Untested → Type 0
IsUnfound source limit script number (untested.NoJournal n) = n ≡ number
IsUnfound source limit script number f = IsUnshown source 1 limit script f

-- one of these causes, with one of these scripts
abbrev pub AreUnshown : List ℕ → ℕ → List (List ℕ) → Untested → Type 0
AreUnshown source limit scripts (untested.Fault (fault.Syntax f)) = HasUnloaded source scripts (load.Syntax f)
AreUnshown source limit scripts (untested.Fault (fault.Script f)) = HasUnloaded source scripts (load.Script f)
AreUnshown source limit scripts (untested.Fault (fault.Scope f)) = HasUnloaded source scripts (load.Scope f)
AreUnshown source limit scripts (untested.Fault (fault.Engine f)) = IsEngineCause 1 limit f
AreUnshown source limit scripts (untested.Fault (fault.Write w)) = Unit {0}
AreUnshown source limit scripts _ = ⊥

-- one of these causes; or the failure that is to be shown isn't among these rows, or is one that no order showed
abbrev pub AreUnwritten : List ℕ → ℕ → List (List ℕ) → Shown → List Row → Untested → Type 0
AreUnwritten source limit scripts s rs (untested.NoFailure n) = IsToShow s n × (failure_at n rs ≡ None)
AreUnwritten source limit scripts s rs (untested.NoJournal n) = IsJournalToShow s n × IsOfSchedule rs n
AreUnwritten source limit scripts s rs f = AreUnshown source limit scripts f

-- all ways of the cases were tried, and this is reported of them
pub record AreReported (t : Trials) (test : Test) (orders : ℕ) (cases : List CaseScripts) (r : Report) : Type 0 where
  pub of_test : r.test.now ≡ test
  pub tried : AllZip (IsTried t) cases r.cases.now
  pub each : r.orders ≡ orders
  pub schedules : AreSaid t r.test.now.claim_lines.items cases r.cases.now r.searched.now

-- why nothing is written: not all cases were tried; or they were, and what is wanted isn't written
abbrev pub AreUntold : Trials → Test → TestOptions → List CaseScripts → Untested → Type 0
AreUntold t test o cases (untested.Fault (fault.Write w)) = (r : Report) × AreReported t test o.orders cases r
AreUntold t test o cases (untested.NoFailure n) = IsToShow o.shown n × ((r : Report) × AreReported t test o.orders cases r × (failure_at n (rows r) ≡ None))
AreUntold t test o cases (untested.NoJournal n) = IsJournalToShow o.shown n × ((r : Report) × AreReported t test o.orders cases r × IsOfSchedule (rows r) n)
AreUntold t test o cases f = AreUntried t.source.now o.workers o.limit (all_texts cases) f
