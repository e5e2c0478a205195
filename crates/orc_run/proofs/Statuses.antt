-- What the status of a command line tells of standard output.
use Rattle.std.proofs.Common.{◌≡◌, ◌≢◌, ◌<◌, ℕ, zero, suc, Bool, true, false, cond, nat_eq, List, Option, sym, refl, subst, ◌∙◌, arith, ◌⊎◌, ⊎_elim, inl, inr}
use Rattle.std.specs.Prelude.{option_map}
use Rattle.std.specs.Io.KnownBytes.{Keeps}
use Rattle.std.proofs.KnownBytes.{Keeps-refl}
use Rattle.orc_syntax.specs.declared.fault.SyntaxFault.{SyntaxFault}
use Rattle.orc_syntax.specs.declared.fault.SyntaxFault.TheVariants as syntax_fault
use Rattle.orc_scope.specs.declared.fault.FaultKind.{FaultKind}
use Rattle.orc_scope.specs.declared.fault.FaultKind.TheVariants as kind
use Rattle.orc_site.specs.declared.script.ScriptFault.{ScriptFault}
use Rattle.orc_site.specs.declared.script.ScriptFault.TheVariants as script
use Rattle.orc_rules.specs.declared.entry.RuleFault.{RuleFault}
use Rattle.orc_rules.specs.declared.entry.RuleFault.TheVariants as reason
use Rattle.orc_journal_text.specs.declared.text.JournalFault.{JournalFault}
use Rattle.orc_journal_text.specs.declared.text.JournalFault.TheVariants as journal
use Rattle.orc_outcome.specs.Status.{end_status_of}
use Rattle.orc_outcome.specs.declared.end.End.{End}
use Rattle.orc_outcome.specs.declared.end.End.TheVariants as ends
use Rattle.orc_run.specs.Commands.{HasEnded, IsDone, IsUnread, LeavesUndone, MayBeRefused, MayBeUntaken, TellsNotAll, TellsOfFailures, WasCut}
use Rattle.orc_run.specs.Failures.{failure_status}
use Rattle.orc_run.specs.Faults.{status}
use Rattle.orc_scheduler.specs.declared.fault.EngineFault.{EngineFault}
use Rattle.orc_scheduler.specs.declared.fault.EngineFault.TheVariants as engine
use Rattle.orc_rules.specs.Faults.{reason_status}
use Rattle.orc_syntax.specs.Faults.{syntax_status}
use Rattle.orc_scope.specs.Faults.{scope_status}
use Rattle.orc_site.specs.Faults.{script_status}
use Rattle.orc_ways.specs.Faults.{test_status}
use Rattle.orc_ways.specs.declared.fault.TestFault.{TestFault}
use Rattle.orc_ways.specs.declared.fault.TestFault.TheVariants as test_fault
use Rattle.orc_journal_text.specs.Faults.{journal_status}
use Rattle.orc_scheduler.specs.Faults.{engine_status}
use Rattle.orc_run.specs.Running.{KeepsOr}
use Rattle.orc_run.specs.Status.{read_status_of}
use Rattle.orc_run.specs.Drawn.{LeavesUndrawn}
use Rattle.orc_run.specs.Searched.{HasSearched}
use Rattle.orc_cli.specs.declared.job.Job.{Job}
use Rattle.orc_cli.specs.declared.job.Job.TheVariants as job
use Rattle.orc_run.specs.declared.inputs.ReadFault.{ReadFault}
use Rattle.orc_run.specs.declared.inputs.ReadFault.TheVariants as read
use Rattle.orc_run.specs.declared.failures.Failure.{Failure}
use Rattle.orc_run.specs.declared.failures.Failure.TheVariants as failure
use Rattle.orc_run.specs.declared.picture.Undrawn.TheVariants as undrawn
use Rattle.orc_run.specs.declared.faults.RunFault.{RunFault}
use Rattle.orc_run.specs.declared.faults.RunFault.TheVariants as fault

-- what was not written to is as it was
pub untouched : (out : Option (List ℕ)) → Keeps out out
untouched out = Keeps-refl out

-- what is so of each file that could not be read
pub unread_case : (P : Failure → Type 0) → ((path : _) (f : ReadFault) → P (failure.Unread path f)) → (f : Failure) → IsUnread f → P f
unread_case P each (failure.Unread path f) u = each path f
unread_case P each (failure.Fault f) u = absurd u
unread_case P each failure.Rows u = absurd u
unread_case P each (failure.NoFailure n) u = absurd u
unread_case P each (failure.NoOutcome n) u = absurd u
unread_case P each (failure.NoRun n) u = absurd u
unread_case P each (failure.NoJournal n) u = absurd u

-- it leaves the output as it was,
pub unread : (f : Failure) (out : Option (List ℕ)) → IsUnread f → LeavesUndone f out out
unread f out u = unread_case (λ f. LeavesUndone f out out) (λ path why. Keeps-refl out) f u

-- and is why a run's journal may not be accepted,
pub unread_refused : (f : Failure) → IsUnread f → MayBeRefused f
unread_refused f u = unread_case MayBeRefused (λ path why. tt) f u

-- or drawn, or judged,
pub unread_untaken : (f : Failure) → IsUnread f → MayBeUntaken f
unread_untaken f u = unread_case MayBeUntaken (λ path why. tt) f u

-- and so does a fault that is not of the output, in every command,
pub cut_or_kept : (cut : Type 0) (old new : Option (List ℕ)) (f : RunFault) → KeepsOr cut old new f → LeavesUndone (failure.Fault f) old new
cut_or_kept cut old new (fault.Syntax f) k = k
cut_or_kept cut old new (fault.Scope f) k = k
cut_or_kept cut old new (fault.Script f) k = k
cut_or_kept cut old new (fault.Test f) k = k
cut_or_kept cut old new (fault.Journal f) k = k
cut_or_kept cut old new (fault.Check f) k = k
cut_or_kept cut old new (fault.Engine f) k = k
cut_or_kept cut old new (fault.Write w) k = tt

-- and a drawing of too many rows
pub undrawn_rows : (source script journal : List ℕ) (old new : Option (List ℕ)) → LeavesUndrawn source script journal old new undrawn.Rows → LeavesUndone failure.Rows old new
undrawn_rows source script journal old new k = k

-- Only status 6 tells of a fault at which something may have been written.
pub kept : (f : Failure) (old new : Option (List ℕ)) (status : ℕ) → failure_status f ≡ status → status ≢ 6 → LeavesUndone f old new → Keeps old new
kept (failure.Unread path f) old new status e d k = k
kept (failure.Fault (fault.Syntax f)) old new status e d k = k
kept (failure.Fault (fault.Scope f)) old new status e d k = k
kept (failure.Fault (fault.Script f)) old new status e d k = k
kept (failure.Fault (fault.Test f)) old new status e d k = k
kept (failure.Fault (fault.Journal f)) old new status e d k = k
kept (failure.Fault (fault.Check f)) old new status e d k = k
kept (failure.Fault (fault.Engine f)) old new status e d k = k
kept (failure.Fault (fault.Write w)) old new status e d k = absurd (d (sym e))
kept failure.Rows old new status e d k = k
kept (failure.NoFailure n) old new status e d k = k
kept (failure.NoOutcome n) old new status e d k = k
kept (failure.NoRun n) old new status e d k = k
kept (failure.NoJournal n) old new status e d k = k

-- ---- how a run ended

abbrev IsFaultless : ℕ → Type 0
IsFaultless n = (n < 8) × (n ≢ 2) × (n ≢ 7)

end_in : (e : End) → IsFaultless (end_status_of e)
end_in ends.Halted = (omega arith, λ h. omega (arith, h), λ h. omega (arith, h))
end_in ends.Quiet = (omega arith, λ h. omega (arith, h), λ h. omega (arith, h))
end_in ends.Limit = (omega arith, λ h. omega (arith, h), λ h. omega (arith, h))
end_in ends.Full = (omega arith, λ h. omega (arith, h), λ h. omega (arith, h))
end_in ends.Memory = (omega arith, λ h. omega (arith, h), λ h. omega (arith, h))

zero_faultless : IsFaultless 0
zero_faultless = (omega arith, λ h. omega (arith, h), λ h. omega (arith, h))

one_faultless : IsFaultless 1
one_faultless = (omega arith, λ h. omega (arith, h), λ h. omega (arith, h))

of_failing : (b : Bool) → IsFaultless (cond b 0 1)
of_failing true = zero_faultless
of_failing false = one_faultless

of_all : (b : Bool) → IsFaultless (cond b 0 4)
of_all true = zero_faultless
of_all false = (omega arith, λ h. omega (arith, h), λ h. omega (arith, h))

-- what was done has no status of a refused command line or of the engine
pub faultless : (holds : List ℕ → Option (List ℕ)) (explains : Bool) (j : Job) (old new : Option (List ℕ)) (status : ℕ) → IsDone holds explains j old new status → (status < 8) × (status ≢ 2) × (status ≢ 7)
faultless holds explains (job.Run program options) old new status (source, read, s, held, said, ran, is) = subst IsFaultless (sym is) (end_in s.end)
faultless holds explains (job.Outcomes program options) old new status (source, read, held, said, told, is) = subst IsFaultless (sym is) zero_faultless
faultless holds explains (job.Search program options) old new status (source, read, all, held, said, searched, is) = subst IsFaultless (sym is) (of_all all)
faultless holds explains (job.Show program options) old new status (source, read, held, said, shown, is) = subst IsFaultless (sym is) zero_faultless
faultless holds explains (job.Check program journal) old new status (source, text, read, held, told, said, judges, is) = subst IsFaultless (sym is) zero_faultless
faultless holds explains (job.Claims program journal test) old new status (source, lines, text, read, failing, held, told, held_too, said, claimed, is) = subst IsFaultless (sym is) (of_failing (nat_eq failing 0))
faultless holds explains (job.Draw program journal options) old new status (source, text, read, held, told, said, draws, is) = subst IsFaultless (sym is) zero_faultless
faultless holds explains (job.DrawRun program options) old new status (source, read, held, said, draws, is) = subst IsFaultless (sym is) zero_faultless
faultless holds explains (job.Print file) old new status (source, held, prints, is) = subst IsFaultless (sym is) zero_faultless
faultless holds explains (job.Test program test options) old new status (source, text, read, failing, held, held_too, said, tested, is) = subst IsFaultless (sym is) (of_failing (nat_eq failing 0))

-- no end has the status of a fault
no_fault : (e : End) → end_status_of e ≢ 1
no_fault ends.Halted h = omega (arith, h)
no_fault ends.Quiet h = omega (arith, h)
no_fault ends.Limit h = omega (arith, h)
no_fault ends.Full h = omega (arith, h)
no_fault ends.Memory h = omega (arith, h)

some_failing : (n : ℕ) → ◌≡◌ {A = ℕ} (cond (nat_eq n 0) 0 1) 1 → 0 < n
some_failing zero h = absurd (omega (arith, h))
some_failing (suc n) h = omega arith

zero_or_four : (b : Bool) (n : ℕ) → n ≢ 0 → n ≢ 4 → ◌≡◌ {A = ℕ} (cond b 0 4) n → ⊥
zero_or_four true n more other h = more (sym h)
zero_or_four false n more other h = other (sym h)

-- what was done with the status of a fault tells of a test some claim of which fails
pub failed : (holds : List ℕ → Option (List ℕ)) (explains : Bool) (j : Job) (old new : Option (List ℕ)) (status : ℕ) → IsDone holds explains j old new status → status ≡ 1 → TellsOfFailures old new
failed holds explains (job.Run program options) old new status (source, read, s, held, said, ran, is) one = absurd (no_fault s.end (sym is ∙ one))
failed holds explains (job.Outcomes program options) old new status (source, read, held, said, told, is) one = absurd (omega (arith, is, one))
failed holds explains (job.Search program options) old new status (source, read, all, held, said, searched, is) one = absurd (zero_or_four all 1 (λ h. omega (arith, h)) (λ h. omega (arith, h)) (sym is ∙ one))
failed holds explains (job.Show program options) old new status (source, read, held, said, shown, is) one = absurd (omega (arith, is, one))
failed holds explains (job.Check program journal) old new status (source, text, read, held, told, said, judges, is) one = absurd (omega (arith, is, one))
failed holds explains (job.Claims program journal test) old new status (source, lines, text, read, failing, held, told, held_too, said, claimed, is) one = inr (source, text, read, lines, failing, claimed, some_failing failing (sym is ∙ one))
failed holds explains (job.Draw program journal options) old new status (source, text, read, held, told, said, draws, is) one = absurd (omega (arith, is, one))
failed holds explains (job.DrawRun program options) old new status (source, read, held, said, draws, is) one = absurd (omega (arith, is, one))
failed holds explains (job.Print file) old new status (source, held, prints, is) one = absurd (omega (arith, is, one))
failed holds explains (job.Test program test options) old new status (source, text, read, failing, held, held_too, said, tested, is) one = inl (options, source, text, read, record { source = program.file.now; test = test.now; script = option_map (λ p. p.now) program.script }, explains, failing, tested, some_failing failing (sym is ∙ one))

quiet_only : (e : End) → end_status_of e ≡ 3 → e ≡ ends.Quiet
quiet_only ends.Halted h = absurd (omega (arith, h))
quiet_only ends.Quiet h = refl
quiet_only ends.Limit h = absurd (omega (arith, h))
quiet_only ends.Full h = absurd (omega (arith, h))
quiet_only ends.Memory h = absurd (omega (arith, h))

cut_only : (e : End) → end_status_of e ≡ 4 → (e ≡ ends.Limit) ⊎ (e ≡ ends.Full)
cut_only ends.Halted h = absurd (omega (arith, h))
cut_only ends.Quiet h = absurd (omega (arith, h))
cut_only ends.Limit h = inl refl
cut_only ends.Full h = inr refl
cut_only ends.Memory h = absurd (omega (arith, h))

zero_or_one : (b : Bool) (n : ℕ) → 1 < n → ◌≡◌ {A = ℕ} (cond b 0 1) n → ⊥
zero_or_one true n more h = omega (arith, more, h)
zero_or_one false n more h = omega (arith, more, h)

pub ended_quiet : (holds : List ℕ → Option (List ℕ)) (explains : Bool) (j : Job) (old new : Option (List ℕ)) (status : ℕ) → IsDone holds explains j old new status → status ≡ 3 → HasEnded ends.Quiet old new
ended_quiet holds explains (job.Run program options) old new status (source, read, s, held, said, ran, is) three = (options, source, read, s, ran, quiet_only s.end (sym is ∙ three))
ended_quiet holds explains (job.Outcomes program options) old new status (source, read, held, said, told, is) three = absurd (omega (arith, is, three))
ended_quiet holds explains (job.Search program options) old new status (source, read, all, held, said, searched, is) three = absurd (zero_or_four all 3 (λ h. omega (arith, h)) (λ h. omega (arith, h)) (sym is ∙ three))
ended_quiet holds explains (job.Show program options) old new status (source, read, held, said, shown, is) three = absurd (omega (arith, is, three))
ended_quiet holds explains (job.Check program journal) old new status (source, text, read, held, told, said, judges, is) three = absurd (omega (arith, is, three))
ended_quiet holds explains (job.Claims program journal test) old new status (source, lines, text, read, failing, held, told, held_too, said, claimed, is) three = absurd (zero_or_one (nat_eq failing 0) 3 (omega arith) (sym is ∙ three))
ended_quiet holds explains (job.Draw program journal options) old new status (source, text, read, held, told, said, draws, is) three = absurd (omega (arith, is, three))
ended_quiet holds explains (job.DrawRun program options) old new status (source, read, held, said, draws, is) three = absurd (omega (arith, is, three))
ended_quiet holds explains (job.Print file) old new status (source, held, prints, is) three = absurd (omega (arith, is, three))
ended_quiet holds explains (job.Test program test options) old new status (source, text, read, failing, held, held_too, said, tested, is) three = absurd (zero_or_one (nat_eq failing 0) 3 (omega arith) (sym is ∙ three))

-- the status of a search that didn't find all
not_all : (source script : List ℕ) (orders limit states : ℕ) (old new : Option (List ℕ)) (all : Bool) → HasSearched source script orders limit states old new all → ◌≡◌ {A = ℕ} (cond all 0 4) 4 → TellsNotAll old new
not_all source script orders limit states old new true searched h = absurd (omega (arith, h))
not_all source script orders limit states old new false searched h = (source, script, orders, limit, states, searched)

pub ended_cut : (holds : List ℕ → Option (List ℕ)) (explains : Bool) (j : Job) (old new : Option (List ℕ)) (status : ℕ) → IsDone holds explains j old new status → status ≡ 4 → WasCut old new ⊎ TellsNotAll old new
ended_cut holds explains (job.Run program options) old new status (source, read, s, held, said, ran, is) four = inl (⊎_elim (λ e. inl (options, source, read, s, ran, e)) (λ e. inr (options, source, read, s, ran, e)) (cut_only s.end (sym is ∙ four)))
ended_cut holds explains (job.Outcomes program options) old new status (source, read, held, said, told, is) four = absurd (omega (arith, is, four))
ended_cut holds explains (job.Search program options) old new status (source, read, all, held, said, searched, is) four = inr (not_all source read options.survey.orders options.survey.limit options.states old new all searched (sym is ∙ four))
ended_cut holds explains (job.Show program options) old new status (source, read, held, said, shown, is) four = absurd (omega (arith, is, four))
ended_cut holds explains (job.Check program journal) old new status (source, text, read, held, told, said, judges, is) four = absurd (omega (arith, is, four))
ended_cut holds explains (job.Claims program journal test) old new status (source, lines, text, read, failing, held, told, held_too, said, claimed, is) four = absurd (zero_or_one (nat_eq failing 0) 4 (omega arith) (sym is ∙ four))
ended_cut holds explains (job.Draw program journal options) old new status (source, text, read, held, told, said, draws, is) four = absurd (omega (arith, is, four))
ended_cut holds explains (job.DrawRun program options) old new status (source, read, held, said, draws, is) four = absurd (omega (arith, is, four))
ended_cut holds explains (job.Print file) old new status (source, held, prints, is) four = absurd (omega (arith, is, four))
ended_cut holds explains (job.Test program test options) old new status (source, text, read, failing, held, held_too, said, tested, is) four = absurd (zero_or_one (nat_eq failing 0) 4 (omega arith) (sym is ∙ four))

-- what is so of 1, 5 and 6 is so of the status of each failure, if it is so of that of the engine's fault, where there is one
module _ (P : ℕ → Type 0) (one : P 1) (five : P 5) (six : P 6) where
  of_syntax : (f : SyntaxFault) → P (syntax_status f)
  of_syntax (syntax_fault.Encoding at) = one
  of_syntax (syntax_fault.Character at) = one
  of_syntax (syntax_fault.Number span) = one
  of_syntax (syntax_fault.Expected at what) = one
  of_syntax (syntax_fault.Deep at) = one
  of_syntax syntax_fault.Long = one
  of_syntax (syntax_fault.Comment at) = one
  of_syntax syntax_fault.Memory = five

  of_scope : (k : FaultKind) → P (scope_status k)
  of_scope kind.Unbound = one
  of_scope kind.NotValue = one
  of_scope (kind.Arity want got) = one
  of_scope kind.DefinedTwice = one
  of_scope kind.ParameterTwice = one
  of_scope kind.CallOfVariable = one
  of_scope kind.NoSite = one
  of_scope kind.TooMany = one
  of_scope kind.Memory = five

  of_script : (f : ScriptFault) → P (script_status f)
  of_script (script.Line number) = one
  of_script script.Memory = five
  of_script script.Long = one

  pub of_test : (f : TestFault) → P (test_status f)
  of_test (test_fault.Line number) = one
  of_test test_fault.Memory = five
  of_test test_fault.Long = one
  of_test (test_fault.Place number) = one
  of_test (test_fault.Unknown number) = one
  of_test (test_fault.Ways number) = one

  of_journal : (f : JournalFault) → P (journal_status f)
  of_journal journal.Header = one
  of_journal (journal.Line number) = one
  of_journal journal.Long = one
  of_journal journal.Memory = five

  of_reason : (r : RuleFault) → P (reason_status r)
  of_reason reason.Cancel = one
  of_reason reason.Mark = one
  of_reason reason.Form = one
  of_reason reason.Number = one
  of_reason reason.Answer = one
  of_reason reason.Time = one
  of_reason reason.Halted = one
  of_reason reason.Deep = one
  of_reason reason.Memory = five

  of_read : (f : ReadFault) → P (read_status_of f)
  of_read read.Memory = five
  of_read (read.Failed why) = six

  pub of_fault : (f : RunFault) → ((e : EngineFault) → f ≡ fault.Engine e → P (engine_status e)) → P (status f)
  of_fault (fault.Syntax f) engine = of_syntax f
  of_fault (fault.Scope f) engine = of_scope f.kind
  of_fault (fault.Script f) engine = of_script f
  of_fault (fault.Test f) engine = of_test f
  of_fault (fault.Journal f) engine = of_journal f
  of_fault (fault.Check f) engine = of_reason f.why
  of_fault (fault.Engine e) engine = engine e refl
  of_fault (fault.Write w) engine = six

  pub of_unread : (f : Failure) → IsUnread f → P (failure_status f)
  of_unread f u = unread_case (λ f. P (failure_status f)) (λ path why. of_read why) f u

  module _ (seven : P 7) where
    of_engine : (f : EngineFault) → P (engine_status f)
    of_engine engine.Range = seven
    of_engine engine.Memory = five
    of_engine engine.Broken = seven
    of_engine (engine.Site number) = seven

    of_failure : (f : Failure) → P (failure_status f)
    of_failure (failure.Unread path f) = of_read f
    of_failure (failure.Fault f) = of_fault f (λ e is. of_engine e)
    of_failure failure.Rows = one
    of_failure (failure.NoFailure number) = one
    of_failure (failure.NoOutcome number) = one
    of_failure (failure.NoRun number) = one
    of_failure (failure.NoJournal number) = one

pub failure_below : (f : Failure) → failure_status f < 8
failure_below f = of_failure (λ n. n < 8) (omega arith) (omega arith) (omega arith) (omega arith) f

-- no failure has the status of such an end
pub not_quiet : (f : Failure) → failure_status f ≢ 3
not_quiet f = of_failure (λ n. n ≢ 3) (λ h. omega (arith, h)) (λ h. omega (arith, h)) (λ h. omega (arith, h)) (λ h. omega (arith, h)) f

pub not_cut : (f : Failure) → failure_status f ≢ 4
not_cut f = of_failure (λ n. n ≢ 4) (λ h. omega (arith, h)) (λ h. omega (arith, h)) (λ h. omega (arith, h)) (λ h. omega (arith, h)) f
