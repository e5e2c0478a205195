-- Why nothing is told of a test: its causes, from those of its steps.
use Rattle.std.proofs.Common.{◌≡◌, ◌≤◌, ◌<◌, ◌-◌, ◌∙◌, ◌++◌, ◌∷◌, ℕ, zero, suc, List, [], Some, None, Err, ap, arith, drop, get_or, inl, inr, length, refl, subst, sym, take}
use Rattle.std.specs.Prelude.{Result, map, option_map}
use Rattle.std.specs.List.{All, AllZip, slice_get}
use Rattle.std.specs.Global.{Vec}
use Rattle.std.proofs.lemmas.List.{append_assoc, length-map, take_all}
use Rattle.std.proofs.lemmas.List.Elements.{All-append, All-cons, All-head, All-nil, All-tail}
use Rattle.std.proofs.lemmas.Option.{slice_get-map}
use Rattle.orc_rules.specs.Sites.{Table}
use Rattle.orc_syntax.specs.Tree.{Source}
use Rattle.orc_site.specs.Script.{Says}
use Rattle.orc_load.specs.Loading.{Loads, SpellsTree}
use Rattle.orc_load.specs.declared.fault.LoadFault.{LoadFault}
use Rattle.orc_load.specs.declared.fault.LoadFault.TheVariants as load
use Rattle.orc_scheduler.specs.Faults.{IsOwn}
use Rattle.orc_scheduler.specs.declared.fault.EngineFault.{EngineFault}
use Rattle.orc_scheduler.specs.declared.fault.EngineFault.TheVariants as engine
use Rattle.orc_engine.specs.Ranges.{IsInRange}
use Rattle.orc_ways.specs.Drafting.{case_of, test_of}
use Rattle.orc_ways.specs.declared.fault.TestFault.TheVariants as unread
use Rattle.orc_ways.specs.declared.test.Case.{Case}
use Rattle.orc_ways.specs.declared.test.Test.{Test}
use Rattle.orc_ways.specs.Values.{sites_of}
use Rattle.orc_cases.specs.Ways.{CaseWays, scripts, ways_of}
use Rattle.orc_cli.specs.declared.job.Shown.{Shown}
use Rattle.orc_cli.specs.declared.job.Shown.TheVariants as shown
use Rattle.orc_cli.specs.declared.job.TestOptions.{TestOptions}
use Rattle.orc_orders.specs.TrialFaults.{Breaks, IsFaultOfWay, IsFirstUnloaded, IsTrialFault}
use Rattle.orc_orders.specs.Trials.{Tells, texts}
use Rattle.orc_orders.specs.declared.trials.TrialFault.{TrialFault}
use Rattle.orc_orders.specs.declared.trials.TrialFault.TheVariants as trial
use Rattle.orc_orders.specs.declared.trials.Trials.{Trials}
use Rattle.orc_orders.specs.declared.ways.CaseTold.{CaseTold}
use Rattle.orc_orders.proofs.Telling.{are_loaded}
use Rattle.orc_tally.specs.Table.{failure_at, rows}
use Rattle.orc_tally.specs.declared.table.CaseReport.{CaseReport}
use Rattle.orc_tally.specs.declared.table.Report.{Report}
use Rattle.orc_tally.specs.declared.table.Row.{Row}
use Rattle.orc_tally.specs.declared.table.Broken.{Broken}
use Rattle.orc_tally.specs.declared.table.Counterexample.TheVariants.{Schedule}
use Rattle.orc_run.specs.Tested.{AreScripts, AreWays, IsJudged, IsTried, of_trial}
use Rattle.orc_run.specs.Whole.{IsScriptAt}
use Rattle.orc_run.specs.TestFaults.{all_scripts, all_texts, AreReported, AreUnshown, AreUntold, AreUntried, AreUnwritten, HasReport, HasUnloaded, IsAmong, IsCounted, IsEngineCause, IsFirstMany, IsKnown, IsNoMemory, IsNoScript, IsNoTest, IsNoText, IsUncounted, IsUnfound, IsUnshown, IsUntestedFor}
use Rattle.orc_run.specs.declared.faults.RunFault.{RunFault}
use Rattle.orc_run.specs.declared.faults.RunFault.TheVariants as fault
use Rattle.orc_run.specs.declared.scripts.CaseScripts.{CaseScripts}
use Rattle.orc_run.specs.declared.test_command.Untested.{Untested}
use Rattle.orc_run.specs.declared.test_command.Untested.TheVariants as untested
use Rattle.orc_run.proofs.Testing.{is_report, one_tried, stands_there}

-- ---- the ways of the cases

-- the next case has too many ways
pub first_many : (t : Test) (ws : List CaseWays) (at : ℕ) (case : Case) → AreWays (test_of t) 0 ws → at ≡ length ws → at < length t.cases.items → case ≡ get_or t.cases.items at case → ways_of (test_of t) at ≡ None → IsFirstMany (test_of t) case.line
first_many t ws at case ways here within is many = record {
  before = ws;
  ways = ways;
  many = subst (λ n. ways_of (test_of t) n ≡ None) here many;
  case = case_of case;
  here = subst (λ n. slice_get (map case_of t.cases.items) n ≡ Some (case_of case)) here (slice_get-map case_of t.cases.items at ∙ ap (option_map case_of) (stands_there t.cases.items at case within is));
  place = refl;
}

-- ---- the engine

engine_cause : (workers limit : ℕ) (f : EngineFault) → (f ≡ engine.Range → IsInRange workers limit → ⊥) → (IsOwn f → ⊥) → IsEngineCause workers limit f
engine_cause workers limit engine.Range range own = range refl
engine_cause workers limit engine.Memory range own = tt
engine_cause workers limit engine.Broken range own = own tt
engine_cause workers limit (engine.Site n) range own = own tt

-- what is out of range for one worker is so for more
more_workers : (workers limit : ℕ) (f : EngineFault) → IsEngineCause 1 limit f → IsEngineCause workers limit f
more_workers workers limit engine.Range out = λ h. out ((omega arith, omega (arith, h.0.0, h.0.1)), h.1)
more_workers workers limit engine.Memory out = tt
more_workers workers limit engine.Broken out = out
more_workers workers limit (engine.Site n) out = out

-- ---- memory that is refused for what is tried

pub memory_untried : (source : List ℕ) (workers limit : ℕ) (scripts : List (List ℕ)) (f : Untested) → IsNoMemory f → AreUntried source workers limit scripts f
memory_untried source workers limit scripts (untested.Fault (fault.Engine engine.Memory)) h = tt
memory_untried source workers limit scripts (untested.Fault (fault.Engine engine.Range)) h = absurd h
memory_untried source workers limit scripts (untested.Fault (fault.Engine engine.Broken)) h = absurd h
memory_untried source workers limit scripts (untested.Fault (fault.Engine (engine.Site n))) h = absurd h
memory_untried source workers limit scripts (untested.Fault (fault.Syntax f)) h = absurd h
memory_untried source workers limit scripts (untested.Fault (fault.Scope f)) h = absurd h
memory_untried source workers limit scripts (untested.Fault (fault.Script f)) h = absurd h
memory_untried source workers limit scripts (untested.Fault (fault.Test f)) h = absurd h
memory_untried source workers limit scripts (untested.Fault (fault.Journal f)) h = absurd h
memory_untried source workers limit scripts (untested.Fault (fault.Check f)) h = absurd h
memory_untried source workers limit scripts (untested.Fault (fault.Write w)) h = absurd h
memory_untried source workers limit scripts (untested.NoFailure n) h = absurd h
memory_untried source workers limit scripts (untested.NoJournal n) h = absurd h

pub memory_unshown : (source : List ℕ) (limit : ℕ) (scripts : List (List ℕ)) (f : Untested) → IsNoMemory f → AreUnshown source limit scripts f
memory_unshown source limit scripts (untested.Fault (fault.Engine engine.Memory)) h = tt
memory_unshown source limit scripts (untested.Fault (fault.Engine engine.Range)) h = absurd h
memory_unshown source limit scripts (untested.Fault (fault.Engine engine.Broken)) h = absurd h
memory_unshown source limit scripts (untested.Fault (fault.Engine (engine.Site n))) h = absurd h
memory_unshown source limit scripts (untested.Fault (fault.Syntax f)) h = absurd h
memory_unshown source limit scripts (untested.Fault (fault.Scope f)) h = absurd h
memory_unshown source limit scripts (untested.Fault (fault.Script f)) h = absurd h
memory_unshown source limit scripts (untested.Fault (fault.Test f)) h = absurd h
memory_unshown source limit scripts (untested.Fault (fault.Journal f)) h = absurd h
memory_unshown source limit scripts (untested.Fault (fault.Check f)) h = absurd h
memory_unshown source limit scripts (untested.Fault (fault.Write w)) h = absurd h
memory_unshown source limit scripts (untested.NoFailure n) h = absurd h
memory_unshown source limit scripts (untested.NoJournal n) h = absurd h

-- ---- the output

pub text_unshown : (source : List ℕ) (workers limit : ℕ) (script : List ℕ) (f : Untested) → IsNoText f → IsUnshown source workers limit script f
text_unshown source workers limit script (untested.Fault (fault.Write w)) h = tt
text_unshown source workers limit script (untested.Fault (fault.Syntax f)) h = absurd h
text_unshown source workers limit script (untested.Fault (fault.Scope f)) h = absurd h
text_unshown source workers limit script (untested.Fault (fault.Script f)) h = absurd h
text_unshown source workers limit script (untested.Fault (fault.Test f)) h = absurd h
text_unshown source workers limit script (untested.Fault (fault.Journal f)) h = absurd h
text_unshown source workers limit script (untested.Fault (fault.Check f)) h = absurd h
text_unshown source workers limit script (untested.Fault (fault.Engine f)) h = absurd h
text_unshown source workers limit script (untested.NoFailure n) h = absurd h
text_unshown source workers limit script (untested.NoJournal n) h = absurd h

pub texts_unshown : (source : List ℕ) (limit : ℕ) (scripts : List (List ℕ)) (f : Untested) → IsNoText f → AreUnshown source limit scripts f
texts_unshown source limit scripts (untested.Fault (fault.Write w)) h = tt
texts_unshown source limit scripts (untested.Fault (fault.Syntax f)) h = absurd h
texts_unshown source limit scripts (untested.Fault (fault.Scope f)) h = absurd h
texts_unshown source limit scripts (untested.Fault (fault.Script f)) h = absurd h
texts_unshown source limit scripts (untested.Fault (fault.Test f)) h = absurd h
texts_unshown source limit scripts (untested.Fault (fault.Journal f)) h = absurd h
texts_unshown source limit scripts (untested.Fault (fault.Check f)) h = absurd h
texts_unshown source limit scripts (untested.Fault (fault.Engine f)) h = absurd h
texts_unshown source limit scripts (untested.NoFailure n) h = absurd h
texts_unshown source limit scripts (untested.NoJournal n) h = absurd h

-- ---- what is tried

of_trials : (source : List ℕ) (workers limit : ℕ) (scripts : List (List ℕ)) (f : TrialFault) → IsTrialFault source scripts f → (f ≡ trial.Engine engine.Range → IsInRange workers limit → ⊥) → AreUntried source workers limit scripts (untested.Fault (of_trial f))
of_trials source workers limit scripts (trial.Load (load.Syntax f)) is range = is
of_trials source workers limit scripts (trial.Load (load.Script f)) is range = is
of_trials source workers limit scripts (trial.Load (load.Scope f)) is range = is
of_trials source workers limit scripts (trial.Engine f) is range = engine_cause workers limit f (λ e. range (ap trial.Engine e)) is

-- a fault of the trials of some scripts
pub untried_ways : {T : Type 0} (t : Trials) (workers : ℕ) (vs ws : List (Vec ℕ)) (old : CaseTold) (r : Result T TrialFault) (f : TrialFault) (g : RunFault) → Tells t [] old → Breaks t (texts vs) old f → r ≡ Err f → (r ≡ Err (trial.Engine engine.Range) → IsInRange workers t.limit → ⊥) → g ≡ of_trial f → vs ≡ ws
    → AreUntried t.source.now workers t.limit (texts ws) (untested.Fault g)
untried_ways t workers vs ws old r f g none breaks is range of same =
    subst (λ xs. AreUntried t.source.now workers t.limit (texts xs) (untested.Fault g)) same
    (subst (λ x. AreUntried t.source.now workers t.limit (texts vs) (untested.Fault x)) (sym of) (of_trials t.source.now workers t.limit (texts vs) f (breaks [] none) (λ e. range (is ∙ ap Err e))))

-- ---- the first of many

first_before : (source : List ℕ) (xs ys : List (List ℕ)) (f : LoadFault) → IsFirstUnloaded source xs f → IsFirstUnloaded source (xs ++ ys) f
first_before source xs ys f is = record {
  front = is.front;
  script = is.script;
  back = is.back ++ ys;
  place = ap (λ ss. ss ++ ys) is.place ∙ append_assoc is.front (is.script ∷ is.back) ys;
  loaded = is.loaded;
  fault = is.fault;
}

first_behind : (source : List ℕ) (xs ys : List (List ℕ)) (f : LoadFault) → All (Loads source) xs → IsFirstUnloaded source ys f → IsFirstUnloaded source (xs ++ ys) f
first_behind source xs ys f loaded is = record {
  front = xs ++ is.front;
  script = is.script;
  back = is.back;
  place = ap (λ ss. xs ++ ss) is.place ∙ sym (append_assoc xs is.front (is.script ∷ is.back));
  loaded = All-append (Loads source) xs is.front loaded is.loaded;
  fault = is.fault;
}

untried_before : (source : List ℕ) (workers limit : ℕ) (xs ys : List (List ℕ)) (f : Untested) → AreUntried source workers limit xs f → AreUntried source workers limit (xs ++ ys) f
untried_before source workers limit xs ys (untested.Fault (fault.Syntax f)) is = first_before source xs ys (load.Syntax f) is
untried_before source workers limit xs ys (untested.Fault (fault.Script f)) is = first_before source xs ys (load.Script f) is
untried_before source workers limit xs ys (untested.Fault (fault.Scope f)) is = first_before source xs ys (load.Scope f) is
untried_before source workers limit xs ys (untested.Fault (fault.Engine f)) is = is
untried_before source workers limit xs ys (untested.Fault (fault.Test f)) is = is
untried_before source workers limit xs ys (untested.Fault (fault.Journal f)) is = is
untried_before source workers limit xs ys (untested.Fault (fault.Check f)) is = is
untried_before source workers limit xs ys (untested.Fault (fault.Write w)) is = is
untried_before source workers limit xs ys (untested.NoFailure n) is = is
untried_before source workers limit xs ys (untested.NoJournal n) is = is

untried_behind : (source : List ℕ) (workers limit : ℕ) (xs ys : List (List ℕ)) (f : Untested) → All (Loads source) xs → AreUntried source workers limit ys f → AreUntried source workers limit (xs ++ ys) f
untried_behind source workers limit xs ys (untested.Fault (fault.Syntax f)) loaded is = first_behind source xs ys (load.Syntax f) loaded is
untried_behind source workers limit xs ys (untested.Fault (fault.Script f)) loaded is = first_behind source xs ys (load.Script f) loaded is
untried_behind source workers limit xs ys (untested.Fault (fault.Scope f)) loaded is = first_behind source xs ys (load.Scope f) loaded is
untried_behind source workers limit xs ys (untested.Fault (fault.Engine f)) loaded is = is
untried_behind source workers limit xs ys (untested.Fault (fault.Test f)) loaded is = is
untried_behind source workers limit xs ys (untested.Fault (fault.Journal f)) loaded is = is
untried_behind source workers limit xs ys (untested.Fault (fault.Check f)) loaded is = is
untried_behind source workers limit xs ys (untested.Fault (fault.Write w)) loaded is = is
untried_behind source workers limit xs ys (untested.NoFailure n) loaded is = is
untried_behind source workers limit xs ys (untested.NoJournal n) loaded is = is

loaded_scripts : (t : Trials) (s : CaseScripts) (r : CaseReport) → IsTried t s r → All (Loads t.source.now) (texts s.scripts.items)
loaded_scripts t s r is = are_loaded t.source.now (sites_of t.sites.now) t.claims.now t.orders t.limit (texts s.scripts.items) (record { ways = r.tried; told = r.told; cut = r.cut }) is.0

-- a fault of the next case's trials is one of all,
pub untried_case : (t : Trials) (workers : ℕ) (s : CaseScripts) (more all : List CaseScripts) (f : Untested) → ((g : Untested) → AreUntried t.source.now workers t.limit (all_texts (s ∷ more)) g → AreUntried t.source.now workers t.limit (all_texts all) g)
    → AreUntried t.source.now workers t.limit (texts s.scripts.items) f → AreUntried t.source.now workers t.limit (all_texts all) f
untried_case t workers s more all f left is = left f (untried_before t.source.now workers t.limit (texts s.scripts.items) (all_texts more) f is)

-- and so is one of those behind it once it is tried
untried_others : (t : Trials) (workers : ℕ) (s : CaseScripts) (more all : List CaseScripts) (r : CaseReport) → ((g : Untested) → AreUntried t.source.now workers t.limit (all_texts (s ∷ more)) g → AreUntried t.source.now workers t.limit (all_texts all) g)
    → IsTried t s r → (f : Untested) → AreUntried t.source.now workers t.limit (all_texts more) f → AreUntried t.source.now workers t.limit (all_texts all) f
untried_others t workers s more all r left tried f is = left f (untried_behind t.source.now workers t.limit (texts s.scripts.items) (all_texts more) f (loaded_scripts t s r tried) is)

split_rest : {X : Type 0} (xs : List X) (x : X) → 1 ≤ length xs → x ≡ get_or xs 0 x → xs ≡ x ∷ take (length xs - 1) (drop 1 xs)
split_rest [] x some is = absurd (omega (arith, some))
split_rest (y ∷ ys) x some is =
    let few : length ys ≤ length (y ∷ ys) - 1 = omega arith in
    ap (λ zs. y ∷ zs) (sym (take_all (length (y ∷ ys) - 1) ys few)) ∙ ap (λ z. z ∷ take (length (y ∷ ys) - 1) ys) (sym is)

-- both are kept where one case more is tried
pub next_tried : (t : Trials) (workers : ℕ) (s : CaseScripts) (rest all : List CaseScripts) (rs new : List CaseReport) (r : CaseReport) → 1 ≤ length rest → s ≡ get_or rest 0 s
    → ((ys : List CaseReport) → AllZip (IsTried t) rest ys → AllZip (IsTried t) all (rs ++ ys)) × ((f : Untested) → AreUntried t.source.now workers t.limit (all_texts rest) f → AreUntried t.source.now workers t.limit (all_texts all) f)
    → IsTried t s r → new ≡ rs ++ r ∷ []
    → ((ys : List CaseReport) → AllZip (IsTried t) (take (length rest - 1) (drop 1 rest)) ys → AllZip (IsTried t) all (new ++ ys)) × ((f : Untested) → AreUntried t.source.now workers t.limit (all_texts (take (length rest - 1) (drop 1 rest))) f → AreUntried t.source.now workers t.limit (all_texts all) f)
next_tried t workers s rest all rs new r some is left tried pushed =
    let more = take (length rest - 1) (drop 1 rest) in
    let split = split_rest rest s some is in
    let told = subst (λ xs. (ys : List CaseReport) → AllZip (IsTried t) xs ys → AllZip (IsTried t) all (rs ++ ys)) split left.0 in
    let untried = subst (λ xs. (f : Untested) → AreUntried t.source.now workers t.limit (all_texts xs) f → AreUntried t.source.now workers t.limit (all_texts all) f) split left.1 in
    (λ ys h. subst (λ xs. AllZip (IsTried t) all (xs ++ ys)) (sym pushed) (one_tried t s more all r rs told tried ys h), untried_others t workers s more all r untried tried)

-- ---- what is shown

-- of a run that is made again
again : (source script : List ℕ) (limit : ℕ) (f : TrialFault) → IsFaultOfWay source script limit f → IsUnshown source 1 limit script (untested.Fault (of_trial f))
again source script limit (trial.Load (load.Syntax f)) is = is
again source script limit (trial.Load (load.Script f)) is = is
again source script limit (trial.Load (load.Scope f)) is = is
again source script limit (trial.Engine f) is = engine_cause 1 limit f is.0 is.1

pub unmade_again : (source script : List ℕ) (limit : ℕ) (f : TrialFault) (g : RunFault) → IsFaultOfWay source script limit f → g ≡ of_trial f → IsUnshown source 1 limit script (untested.Fault g)
unmade_again source script limit f g is same = subst (λ x. IsUnshown source 1 limit script (untested.Fault x)) (sym same) (again source script limit f is)

-- the place of a script among those of all cases
listed : {X : Type 0} (xs : List X) (at : ℕ) (x : X) → slice_get xs at ≡ Some x → (front : List X) × (back : List X) × (xs ≡ front ++ x ∷ back)
listed [] at x e = cc e
listed (y ∷ ys) zero x e = let same : y ≡ x = cc e in ([], ys, ap (λ z. z ∷ ys) same)
listed (y ∷ ys) (suc at) x e = let (front, back, place) = listed ys at x e in (y ∷ front, back, ap (λ zs. y ∷ zs) place)

in_case : (cases : List CaseScripts) (at : ℕ) (s : CaseScripts) → slice_get cases at ≡ Some s → (front : List (List ℕ)) × (back : List (List ℕ)) × (all_texts cases ≡ front ++ (texts s.scripts.items ++ back))
in_case [] at s e = cc e
in_case (c ∷ cs) zero s e = let same : c ≡ s = cc e in ([], all_texts cs, ap (λ z. texts z.scripts.items ++ all_texts cs) same)
in_case (c ∷ cs) (suc at) s e =
    let (front, back, place) = in_case cs at s e in
    (texts c.scripts.items ++ front, back, ap (λ ts. texts c.scripts.items ++ ts) place ∙ sym (append_assoc (texts c.scripts.items) front (texts s.scripts.items ++ back)))

pub among : (cases : List CaseScripts) (case way : ℕ) (text : List ℕ) → IsScriptAt cases case way text → IsAmong (all_texts cases) text
among cases case way text (s, its, there) =
    let (front, back, place) = in_case cases case s its in
    let (near, far, here) = listed (texts s.scripts.items) way text there in
    record {
      front = front ++ near;
      back = far ++ back;
      place = place ∙ ap (λ ts. front ++ (ts ++ back)) here ∙ ap (λ ts. front ++ ts) (append_assoc near (text ∷ far) back) ∙ sym (append_assoc front near (text ∷ (far ++ back)));
    }

-- what isn't shown of one of them isn't shown of all
pub of_script : (source : List ℕ) (limit : ℕ) (scripts : List (List ℕ)) (text : List ℕ) (f : Untested) → IsAmong scripts text → IsUnshown source 1 limit text f → AreUnshown source limit scripts f
of_script source limit scripts text (untested.Fault (fault.Syntax f)) there is = (text, there, is)
of_script source limit scripts text (untested.Fault (fault.Script f)) there is = (text, there, is)
of_script source limit scripts text (untested.Fault (fault.Scope f)) there is = (text, there, is)
of_script source limit scripts text (untested.Fault (fault.Engine f)) there is = is
of_script source limit scripts text (untested.Fault (fault.Write w)) there is = tt
of_script source limit scripts text (untested.Fault (fault.Test f)) there is = is
of_script source limit scripts text (untested.Fault (fault.Journal f)) there is = is
of_script source limit scripts text (untested.Fault (fault.Check f)) there is = is
of_script source limit scripts text (untested.NoFailure n) there is = absurd is
of_script source limit scripts text (untested.NoJournal n) there is = absurd is

-- and isn't written
pub unshown_unwritten : (source : List ℕ) (limit : ℕ) (scripts : List (List ℕ)) (s : Shown) (rs : List Row) (f : Untested) → AreUnshown source limit scripts f → AreUnwritten source limit scripts s rs f
unshown_unwritten source limit scripts s rs (untested.Fault f) is = is
unshown_unwritten source limit scripts s rs (untested.NoFailure n) is = absurd is
unshown_unwritten source limit scripts s rs (untested.NoJournal n) is = absurd is

-- or isn't found
pub unfound_unwritten : (source : List ℕ) (limit : ℕ) (scripts : List (List ℕ)) (text : List ℕ) (number : ℕ) (rs : List Row) (b : Broken) (f : Untested) → IsAmong scripts text → failure_at number rs ≡ Some (Schedule b) → IsUnfound source limit text number f → AreUnwritten source limit scripts (shown.Journal number) rs f
unfound_unwritten source limit scripts text number rs b (untested.Fault f) there of is = of_script source limit scripts text (untested.Fault f) there is
unfound_unwritten source limit scripts text number rs b (untested.NoFailure n) there of is = absurd is
unfound_unwritten source limit scripts text number rs b (untested.NoJournal n) there of is = (sym is, (b, subst (λ (m : ℕ). failure_at m rs ≡ Some (Schedule b)) (sym is) of))

-- ---- all of it

all_loaded : (t : Trials) (cases : List CaseScripts) (rs : List CaseReport) → AllZip (IsTried t) cases rs → All (Loads t.source.now) (all_texts cases)
all_loaded t [] rs tried = All-nil (Loads t.source.now)
all_loaded t (s ∷ ss) [] tried = absurd tried
all_loaded t (s ∷ ss) (r ∷ rs) tried = All-append (Loads t.source.now) (texts s.scripts.items) (all_texts ss) (loaded_scripts t s r tried.0) (all_loaded t ss rs tried.1)

loaded_front : (source : List ℕ) (front back : List (List ℕ)) → All (Loads source) (front ++ back) → All (Loads source) front
loaded_front source [] back loaded = All-nil (Loads source)
loaded_front source (x ∷ xs) back loaded = All-cons (Loads source) x xs (All-head (Loads source) x (xs ++ back) loaded) (loaded_front source xs back (All-tail (Loads source) x (xs ++ back) loaded))

first_of_loaded : (source : List ℕ) (scripts : List (List ℕ)) (f : LoadFault) → All (Loads source) scripts → HasUnloaded source scripts f → IsFirstUnloaded source scripts f
first_of_loaded source scripts f loaded (script, there, is) = record {
  front = there.front;
  script = script;
  back = there.back;
  place = there.place;
  loaded = loaded_front source there.front (script ∷ there.back) (subst (All (Loads source)) there.place loaded);
  fault = is;
}

-- where not all is tried nothing is told,
pub untried_untold : (t : Trials) (test : Test) (o : TestOptions) (cases : List CaseScripts) (f : Untested) → t.limit ≡ o.limit → AreUntried t.source.now o.workers t.limit (all_texts cases) f → AreUntold t test o cases f
untried_untold t test o cases (untested.Fault (fault.Syntax f)) same is = is
untried_untold t test o cases (untested.Fault (fault.Script f)) same is = is
untried_untold t test o cases (untested.Fault (fault.Scope f)) same is = is
untried_untold t test o cases (untested.Fault (fault.Engine f)) same is = subst (λ n. IsEngineCause o.workers n f) same is
untried_untold t test o cases (untested.Fault (fault.Test f)) same is = is
untried_untold t test o cases (untested.Fault (fault.Journal f)) same is = is
untried_untold t test o cases (untested.Fault (fault.Check f)) same is = is
untried_untold t test o cases (untested.Fault (fault.Write w)) same is = absurd is
untried_untold t test o cases (untested.NoFailure n) same is = absurd is
untried_untold t test o cases (untested.NoJournal n) same is = absurd is

pub memory_untold : (t : Trials) (test : Test) (o : TestOptions) (cases : List CaseScripts) (f : Untested) → t.limit ≡ o.limit → IsNoMemory f → AreUntold t test o cases f
memory_untold t test o cases f same is = untried_untold t test o cases f same (memory_untried t.source.now o.workers t.limit (all_texts cases) f is)

-- and so where it is and what is wanted isn't written
pub unwritten_untold : (t : Trials) (test : Test) (o : TestOptions) (cases : List CaseScripts) (r : Report) (f : Untested) → AreReported t test o.orders cases r → t.limit ≡ o.limit → AreUnwritten t.source.now t.limit (all_texts cases) o.shown (rows r) f → AreUntold t test o cases f
unwritten_untold t test o cases r (untested.Fault (fault.Syntax f)) reported same is = first_of_loaded t.source.now (all_texts cases) (load.Syntax f) (all_loaded t cases r.cases.now reported.tried) is
unwritten_untold t test o cases r (untested.Fault (fault.Script f)) reported same is = first_of_loaded t.source.now (all_texts cases) (load.Script f) (all_loaded t cases r.cases.now reported.tried) is
unwritten_untold t test o cases r (untested.Fault (fault.Scope f)) reported same is = first_of_loaded t.source.now (all_texts cases) (load.Scope f) (all_loaded t cases r.cases.now reported.tried) is
unwritten_untold t test o cases r (untested.Fault (fault.Engine f)) reported same is = subst (λ n. IsEngineCause o.workers n f) same (more_workers o.workers t.limit f is)
unwritten_untold t test o cases r (untested.Fault (fault.Test f)) reported same is = is
unwritten_untold t test o cases r (untested.Fault (fault.Journal f)) reported same is = is
unwritten_untold t test o cases r (untested.Fault (fault.Check f)) reported same is = is
unwritten_untold t test o cases r (untested.Fault (fault.Write w)) reported same is = (r, reported)
unwritten_untold t test o cases r (untested.NoFailure n) reported same is = (is.0, (r, reported, is.1))
unwritten_untold t test o cases r (untested.NoJournal n) reported same is = (is.0, (r, reported, is.1))

-- ---- of a test that is known

same_scripts : (most : ℕ) (behind : List ℕ) (ways : List CaseWays) (cases : List CaseScripts) → AllZip (AreScripts most behind) ways cases → all_texts cases ≡ all_scripts most behind ways
same_scripts most behind [] [] are = refl
same_scripts most behind [] (s ∷ ss) are = absurd are
same_scripts most behind (c ∷ cs) [] are = absurd are
same_scripts most behind (c ∷ cs) (s ∷ ss) are = ap (λ ts. ts ++ all_texts ss) are.0.first ∙ ap (λ ts. scripts c most behind ++ ts) (same_scripts most behind cs ss are.1)

module _ (source text script : List ℕ) (o : TestOptions) (test : Test) (known : IsKnown source text script (test_of test)) where
  -- whose cases aren't counted,
  pub uncounted : (f : Untested) → IsUncounted (test_of test) f → IsUntestedFor source text script o f
  uncounted (untested.Fault (fault.Test unread.Memory)) is = (known.spells, (known.others, known.says, known.reads.within))
  uncounted (untested.Fault (fault.Test (unread.Ways line))) is = (test_of test, known, is)
  uncounted (untested.Fault (fault.Test unread.Long)) is = absurd is
  uncounted (untested.Fault (fault.Test (unread.Line n))) is = absurd is
  uncounted (untested.Fault (fault.Test (unread.Place n))) is = absurd is
  uncounted (untested.Fault (fault.Test (unread.Unknown n))) is = absurd is
  uncounted (untested.Fault (fault.Syntax f)) is = absurd is
  uncounted (untested.Fault (fault.Scope f)) is = absurd is
  uncounted (untested.Fault (fault.Script f)) is = absurd is
  uncounted (untested.Fault (fault.Journal f)) is = absurd is
  uncounted (untested.Fault (fault.Check f)) is = absurd is
  uncounted (untested.Fault (fault.Engine f)) is = absurd is
  uncounted (untested.Fault (fault.Write w)) is = absurd is
  uncounted (untested.NoFailure n) is = absurd is
  uncounted (untested.NoJournal n) is = absurd is

  module _ (ways : List CaseWays) (are : AreWays (test_of test) 0 ways) (every : length ways ≡ length test.cases.items) where
    counted : IsCounted source text script ways
    counted = record { test = test_of test; known = known; cases = are; every = every ∙ sym (length-map test.cases.items case_of) }

    -- whose ways have no scripts,
    pub unscripted : (f : Untested) → IsNoMemory f → IsUntestedFor source text script o f
    unscripted (untested.Fault (fault.Engine engine.Memory)) is = (ways, counted, tt)
    unscripted (untested.Fault (fault.Engine engine.Range)) is = absurd is
    unscripted (untested.Fault (fault.Engine engine.Broken)) is = absurd is
    unscripted (untested.Fault (fault.Engine (engine.Site n))) is = absurd is
    unscripted (untested.Fault (fault.Test f)) is = absurd is
    unscripted (untested.Fault (fault.Syntax f)) is = absurd is
    unscripted (untested.Fault (fault.Scope f)) is = absurd is
    unscripted (untested.Fault (fault.Script f)) is = absurd is
    unscripted (untested.Fault (fault.Journal f)) is = absurd is
    unscripted (untested.Fault (fault.Check f)) is = absurd is
    unscripted (untested.Fault (fault.Write w)) is = absurd is
    unscripted (untested.NoFailure n) is = absurd is
    unscripted (untested.NoJournal n) is = absurd is

    module _ (held : Test) (judged : IsJudged test held) (t : Trials) (cases : List CaseScripts) (first : AllZip (AreScripts o.ways script) ways cases)
        (of_source : t.source.now ≡ source) (of_sites : t.sites.now ≡ held.sites.items) (of_claims : t.claims.now ≡ held.claims.items) (each : t.orders ≡ o.orders) (most : t.limit ≡ o.limit) where
      unloaded : (f : LoadFault) → IsFirstUnloaded t.source.now (all_texts cases) f → IsFirstUnloaded source (all_scripts o.ways script ways) f
      unloaded f is = subst (λ ss. IsFirstUnloaded source ss f) (same_scripts o.ways script ways cases first) (subst (λ s. IsFirstUnloaded s (all_texts cases) f) of_source is)

      reported : (r : Report) → AreReported t held o.orders cases r → HasReport source text script o r
      reported r is = (ways, cases, t, is_report source script text o t test held cases known.others ways are every first judged of_source of_sites of_claims each most known.says known.reads r is.of_test is.tried is.each is.schedules)

      -- or of which nothing is told
      pub untold : (f : Untested) → AreUntold t held o cases f → IsUntestedFor source text script o f
      untold (untested.Fault (fault.Syntax f)) is = (unloaded (load.Syntax f) is).fault
      untold (untested.Fault (fault.Script f)) is = inr (ways, counted, unloaded (load.Script f) is)
      untold (untested.Fault (fault.Scope f)) is = (ways, counted, unloaded (load.Scope f) is)
      untold (untested.Fault (fault.Engine f)) is = (ways, counted, is)
      untold (untested.Fault (fault.Test f)) is = absurd is
      untold (untested.Fault (fault.Journal f)) is = is
      untold (untested.Fault (fault.Check f)) is = is
      untold (untested.Fault (fault.Write w)) (r, is) = (r, reported r is)
      untold (untested.NoFailure n) (shown, (r, is, none)) = (shown, (r, reported r is, none))
      untold (untested.NoJournal n) (shown, (r, is, none)) = (shown, (r, reported r is, none))

-- ---- of one that isn't

pub unscripted_for : (source text script : List ℕ) (o : TestOptions) (s : Source) (f : Untested) → SpellsTree source s → IsNoScript script f → IsUntestedFor source text script o f
unscripted_for source text script o s (untested.Fault (fault.Script f)) spells is = inl ((s, spells), is)
unscripted_for source text script o s (untested.Fault (fault.Syntax f)) spells is = absurd is
unscripted_for source text script o s (untested.Fault (fault.Scope f)) spells is = absurd is
unscripted_for source text script o s (untested.Fault (fault.Test f)) spells is = absurd is
unscripted_for source text script o s (untested.Fault (fault.Journal f)) spells is = absurd is
unscripted_for source text script o s (untested.Fault (fault.Check f)) spells is = absurd is
unscripted_for source text script o s (untested.Fault (fault.Engine f)) spells is = absurd is
unscripted_for source text script o s (untested.Fault (fault.Write w)) spells is = absurd is
unscripted_for source text script o s (untested.NoFailure n) spells is = absurd is
unscripted_for source text script o s (untested.NoJournal n) spells is = absurd is

pub unread_for : (source text script : List ℕ) (o : TestOptions) (s : Source) (others : Table) (f : Untested) → SpellsTree source s → Says script others → IsNoTest text others f → IsUntestedFor source text script o f
unread_for source text script o s others (untested.Fault (fault.Test unread.Memory)) spells says is = ((s, spells), (others, says, is))
unread_for source text script o s others (untested.Fault (fault.Test unread.Long)) spells says is = ((s, spells), (others, says, is))
unread_for source text script o s others (untested.Fault (fault.Test (unread.Line n))) spells says is = ((s, spells), (others, says, is))
unread_for source text script o s others (untested.Fault (fault.Test (unread.Place n))) spells says is = ((s, spells), (others, says, is))
unread_for source text script o s others (untested.Fault (fault.Test (unread.Unknown n))) spells says is = ((s, spells), (others, says, is))
unread_for source text script o s others (untested.Fault (fault.Test (unread.Ways n))) spells says is = absurd is
unread_for source text script o s others (untested.Fault (fault.Syntax f)) spells says is = absurd is
unread_for source text script o s others (untested.Fault (fault.Scope f)) spells says is = absurd is
unread_for source text script o s others (untested.Fault (fault.Script f)) spells says is = absurd is
unread_for source text script o s others (untested.Fault (fault.Journal f)) spells says is = absurd is
unread_for source text script o s others (untested.Fault (fault.Check f)) spells says is = absurd is
unread_for source text script o s others (untested.Fault (fault.Engine f)) spells says is = absurd is
unread_for source text script o s others (untested.Fault (fault.Write w)) spells says is = absurd is
unread_for source text script o s others (untested.NoFailure n) spells says is = absurd is
unread_for source text script o s others (untested.NoJournal n) spells says is = absurd is
