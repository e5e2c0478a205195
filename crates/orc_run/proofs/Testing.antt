-- What holding a test against a program leaves, and the scripts that show its failures.
use Rattle.std.proofs.Common.{◌≡◌, ◌<◌, ◌∙◌, ◌++◌, ◌∷◌, ℕ, get_or, length, List, [], Option, Some, ap, arith, refl, subst, sym}
use Rattle.std.specs.Global.{Vec}
use Rattle.std.specs.Prelude.{Bool, option_map}
use Rattle.std.specs.List.{AllZip, slice_get}
use Rattle.std.proofs.KnownBytes.{Appends-nil, Keeps-refl}
use Rattle.std.proofs.lemmas.List.{append-nil, append_assoc}
use Rattle.std.proofs.lemmas.Option.{slice_get-get_or, slice_get-map}
use Rattle.orc_rules.specs.Sites.{Table}
use Rattle.orc_site.specs.Script.{Says}
use Rattle.orc_load.specs.declared.fault.LoadFault.TheVariants as load
use Rattle.orc_ways.specs.Drafting.{test_of}
use Rattle.orc_ways.specs.Finishing.{Says as SaysTest}
use Rattle.orc_ways.specs.declared.test.Test.{Test}
use Rattle.orc_cases.specs.Ways.{CaseWays}
use Rattle.orc_cli.specs.declared.job.TestOptions.{TestOptions}
use Rattle.orc_orders.specs.TrialFaults.{Breaks, IsTrialFault}
use Rattle.orc_orders.specs.Trials.{Adds, Tells, texts}
use Rattle.orc_orders.specs.declared.trials.TrialFault.{TrialFault}
use Rattle.orc_orders.specs.declared.trials.TrialFault.TheVariants as trial
use Rattle.orc_orders.specs.declared.trials.Trials.{Trials}
use Rattle.orc_orders.specs.declared.ways.CaseTold.{CaseTold}
use Rattle.orc_tally.specs.Table.{failing, rows}
use Rattle.orc_tally.specs.declared.table.CaseReport.{CaseReport}
use Rattle.orc_tally.specs.declared.table.Report.{Report}
use Rattle.orc_run.specs.Running.{IsOwnOf}
use Rattle.orc_run.specs.Called.{Named}
use Rattle.orc_run.specs.Tested.{AreScripts, AreWays, HasFailing, IsJudged, IsReport, IsTried, LeavesUntested, Writes, of_trial}
use Rattle.orc_run.specs.Whole.{AreSaid, IsScriptAt}
use Rattle.orc_run.specs.declared.faults.RunFault.{RunFault}
use Rattle.orc_run.specs.declared.faults.RunFault.TheVariants as fault
use Rattle.orc_run.specs.declared.scripts.CaseScripts.{CaseScripts}
use Rattle.orc_run.specs.declared.test_command.Untested.{Untested}
use Rattle.orc_run.specs.declared.test_command.Untested.TheVariants as untested

-- where nothing was written the output is as it was
pub unwritten : (old : Option (List ℕ)) (f : Untested) → LeavesUntested old old f
unwritten old (untested.NoFailure n) = Keeps-refl old
unwritten old (untested.NoJournal n) = Keeps-refl old
unwritten old (untested.Fault (fault.Syntax f)) = Keeps-refl old
unwritten old (untested.Fault (fault.Scope f)) = Keeps-refl old
unwritten old (untested.Fault (fault.Script f)) = Keeps-refl old
unwritten old (untested.Fault (fault.Test f)) = Keeps-refl old
unwritten old (untested.Fault (fault.Journal f)) = Keeps-refl old
unwritten old (untested.Fault (fault.Check f)) = Keeps-refl old
unwritten old (untested.Fault (fault.Engine f)) = Keeps-refl old
unwritten old (untested.Fault (fault.Write w)) = ([], ([], [], refl, Appends-nil old))

-- what is told of no way, and then of these, is told of these
pub all_told : (t : Trials) (vs ws : List (Vec ℕ)) (old new : CaseTold) → Tells t [] old → Adds t (texts vs) old new → vs ≡ ws → Tells t (texts ws) new
all_told t vs ws old new none adds same = subst (λ xs. Tells t (texts xs) new) same (adds [] none)

not_own : (source : List ℕ) (scripts : List (List ℕ)) (f : TrialFault) → IsTrialFault source scripts f → IsOwnOf (of_trial f) → ⊥
not_own source scripts (trial.Load (load.Syntax f)) h own = own
not_own source scripts (trial.Load (load.Script f)) h own = own
not_own source scripts (trial.Load (load.Scope f)) h own = own
not_own source scripts (trial.Engine f) h own = h own

-- a fault of these trials isn't the engine's own
pub trial_sound : (t : Trials) (scripts : List (List ℕ)) (old : CaseTold) (f : TrialFault) (g : RunFault) → Tells t [] old → Breaks t scripts old f → g ≡ of_trial f → IsOwnOf g → ⊥
trial_sound t scripts old f g none breaks is own = not_own t.source.now scripts f (breaks [] none) (subst IsOwnOf is own)

-- of a case more it is told,
pub one_tried : (t : Trials) (x : CaseScripts) (more xs : List CaseScripts) (r : CaseReport) (rs : List CaseReport) → ((ys : List CaseReport) → AllZip (IsTried t) (x ∷ more) ys → AllZip (IsTried t) xs (rs ++ ys)) → IsTried t x r → (ys : List CaseReport) → AllZip (IsTried t) more ys → AllZip (IsTried t) xs ((rs ++ r ∷ []) ++ ys)
one_tried t x more xs r rs left is ys told = subst (AllZip (IsTried t) xs) (sym (append_assoc rs (r ∷ []) ys)) (left (r ∷ ys) (is, told))

-- and of all where none is left
pub all_tried : (t : Trials) (xs rest : List CaseScripts) (rs : List CaseReport) → length rest < 1 → ((ys : List CaseReport) → AllZip (IsTried t) rest ys → AllZip (IsTried t) xs (rs ++ ys)) → AllZip (IsTried t) xs rs
all_tried t xs [] rs few left = subst (AllZip (IsTried t) xs) (append-nil rs) (left [] tt)
all_tried t xs (x ∷ rest) rs few left = absurd (omega (arith, few))

-- what stands at a place of a list
pub stands_there : {X : Type 0} (xs : List X) (at : ℕ) (x : X) → at < length xs → x ≡ get_or xs at x → slice_get xs at ≡ Some x
stands_there xs at x here same = slice_get-get_or xs at x here ∙ ap Some (sym same)

-- the script at these places
pub script_there : (cases : List CaseScripts) (case way : ℕ) (s : CaseScripts) (vs : List (Vec ℕ)) (v : Vec ℕ) (text : List ℕ) → slice_get cases case ≡ Some s → vs ≡ s.scripts.items → slice_get vs way ≡ Some v → text ≡ v.items → IsScriptAt cases case way text
script_there cases case way s vs v text here same there is = (s, here, slice_get-map (λ w. w.items) s.scripts.items way ∙ ap (option_map (λ w. w.items)) (ap (λ ws. slice_get ws way) (sym same) ∙ there) ∙ ap Some (sym is))

-- what is reported of a test that was read and tried
pub is_report : (source script text : List ℕ) (o : TestOptions) (t : Trials) (read test : Test) (cases : List CaseScripts) (others : Table) (ways : List CaseWays)
    → AreWays (test_of read) 0 ways → length ways ≡ length read.cases.items → AllZip (AreScripts o.ways script) ways cases → IsJudged read test
    → t.source.now ≡ source → t.sites.now ≡ test.sites.items → t.claims.now ≡ test.claims.items → t.orders ≡ o.orders → t.limit ≡ o.limit → Says script others → SaysTest text others (test_of read)
    → (r : Report) → r.test.now ≡ test → AllZip (IsTried t) cases r.cases.now → r.orders ≡ o.orders → AreSaid t r.test.now.claim_lines.items cases r.cases.now r.searched.now
    → IsReport source text script o ways cases t r
is_report source script text o t read test cases others ways are every first judged of_source sites claims orders limit says reads r is tried each said = record {
  others = others;
  says = says;
  read = read;
  reads = reads;
  judged = subst (IsJudged read) (sym is) judged;
  cases = are;
  every = every;
  first = first;
  of_test = record {
    of_source = of_source;
    of_sites = sites ∙ ap (λ x. x.sites.items) (sym is);
    of_claims = claims ∙ ap (λ x. x.claims.items) (sym is);
    each = orders;
    most = limit;
  };
  tried = tried;
  orders = each;
  schedules = said;
}

-- what was tried and written of it
pub report_of : (source script text : List ℕ) (names : Named) (o : TestOptions) (explains : Bool) (t : Trials) (read test : Test) (cases : List CaseScripts) (others : Table) (old new : Option (List ℕ)) (n : ℕ) (ways : List CaseWays)
    → AreWays (test_of read) 0 ways → length ways ≡ length read.cases.items → AllZip (AreScripts o.ways script) ways cases → IsJudged read test
    → t.source.now ≡ source → t.sites.now ≡ test.sites.items → t.claims.now ≡ test.claims.items → t.orders ≡ o.orders → t.limit ≡ o.limit → Says script others → SaysTest text others (test_of read)
    → (r : Report) × (r.test.now ≡ test) × AllZip (IsTried t) cases r.cases.now × (r.orders ≡ o.orders) × AreSaid t r.test.now.claim_lines.items cases r.cases.now r.searched.now × Writes t explains ways names o cases r o.shown old new × (n ≡ failing (rows r))
    → HasFailing source text script names o explains old new n
report_of source script text names o explains t read test cases others old new n ways are every first judged of_source sites claims orders limit says reads (r, is, tried, each, said, writes, number) = (
  ways,
  cases,
  t,
  r,
  is_report source script text o t read test cases others ways are every first judged of_source sites claims orders limit says reads r is tried each said,
  writes,
  number,
)
