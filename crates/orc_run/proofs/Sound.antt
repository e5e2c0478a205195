-- No failure of a job has the status 7 of a fault of the engine, if the numbers of workers and of entries are in range.
use Rattle.std.proofs.Common.{◌≡◌, ◌≢◌, ◌∙◌, ℕ, List, Ok, Err, ap, arith, refl, subst, sym}
use Rattle.std.specs.Prelude.{IfErr, Result}
use Rattle.orc_engine.specs.Ranges.{IsInRange}
use Rattle.orc_scheduler.specs.Faults.{IsOwn, engine_status}
use Rattle.orc_scheduler.specs.declared.fault.EngineFault.{EngineFault}
use Rattle.orc_scheduler.specs.declared.fault.EngineFault.TheVariants as engine
use Rattle.orc_ways.specs.declared.fault.TestFault.{TestFault}
use Rattle.orc_cli.specs.declared.job.RunOptions.{RunOptions}
use Rattle.orc_cli.specs.declared.job.TestOptions.{TestOptions}
use Rattle.orc_run.specs.Checked.{IsCheckFault, IsUnchecked}
use Rattle.orc_run.specs.Claimed.{IsUnclaimedFor}
use Rattle.orc_run.specs.Commands.{IsUnread}
use Rattle.orc_run.specs.Drawn.{IsOwnUndrawn, IsRangeOf, IsUndrawnFor}
use Rattle.orc_run.specs.Failures.{failure_status}
use Rattle.orc_run.specs.Printed.{IsPrintFault}
use Rattle.orc_run.specs.Running.{IsOwnOf}
use Rattle.orc_run.specs.Shown.{IsOwnUnshown}
use Rattle.orc_run.specs.TestFaults.{IsEngineCause, IsUntestedFor}
use Rattle.orc_run.specs.declared.failures.Failure.{Failure}
use Rattle.orc_run.specs.declared.failures.Failure.TheVariants as failure
use Rattle.orc_run.specs.declared.faults.RunFault.{RunFault}
use Rattle.orc_run.specs.declared.faults.RunFault.TheVariants as fault
use Rattle.orc_run.specs.declared.judge.Unchecked.{Unchecked}
use Rattle.orc_run.specs.declared.judge.Unchecked.TheVariants as unchecked
use Rattle.orc_run.specs.declared.picture.Undrawn.{Undrawn}
use Rattle.orc_run.specs.declared.picture.Undrawn.TheVariants as undrawn
use Rattle.orc_run.specs.declared.shown.Unshown.{Unshown}
use Rattle.orc_run.specs.declared.shown.Unshown.TheVariants as unshown
use Rattle.orc_run.specs.declared.test_command.Untested.{Untested}
use Rattle.orc_run.specs.declared.test_command.Untested.TheVariants as untested
use Rattle.orc_run.proofs.Statuses as statuses

abbrev IsSound : ℕ → Type 0
IsSound n = n ≢ 7

one_sound : IsSound 1
one_sound h = omega (arith, h)

five_sound : IsSound 5
five_sound h = omega (arith, h)

pub six_sound : IsSound 6
six_sound h = omega (arith, h)

-- a fault that isn't the engine's,
sound_fault : (f : RunFault) → ((e : EngineFault) → f ≡ fault.Engine e → IsSound (engine_status e)) → failure_status (failure.Fault f) ≢ 7
sound_fault f engine = statuses.of_fault IsSound one_sound five_sound six_sound f engine

-- and one of the engine's that is neither its own nor one of its range
unowned : (e : EngineFault) → (e ≡ engine.Range → ⊥) → (IsOwn e → ⊥) → IsSound (engine_status e)
unowned engine.Range not own = absurd (not refl)
unowned engine.Memory not own = five_sound
unowned engine.Broken not own = absurd (own tt)
unowned (engine.Site n) not own = absurd (own tt)

engine_cause : (workers limit : ℕ) (e : EngineFault) → IsEngineCause workers limit e → IsInRange workers limit → IsSound (engine_status e)
engine_cause workers limit engine.Range range within = absurd (range within)
engine_cause workers limit engine.Memory cause within = five_sound
engine_cause workers limit engine.Broken cause within = absurd cause
engine_cause workers limit (engine.Site n) cause within = absurd cause

-- ---- of each job

-- a file that couldn't be read
pub unread_sound : (f : Failure) → IsUnread f → failure_status f ≢ 7
unread_sound f is = statuses.of_unread IsSound one_sound five_sound six_sound f is

module _ (workers limit : ℕ) where
  -- a run,
  pub of_run : (f : RunFault) → (f ≡ fault.Engine engine.Range → IsInRange workers limit → ⊥) → (IsOwnOf f → ⊥) → IsInRange workers limit → failure_status (failure.Fault f) ≢ 7
  of_run f range own within = sound_fault f (λ e is. unowned e (λ here. range (is ∙ ap fault.Engine here) within) (λ its. own (subst IsOwnOf (sym is) its)))

  -- one that is shown,
  pub of_unshown : (u : Unshown) (f : RunFault) → u ≡ unshown.Fault f → (u ≡ unshown.Fault (fault.Engine engine.Range) → IsInRange workers limit → ⊥) → (IsOwnUnshown u → ⊥) → IsInRange workers limit → failure_status (failure.Fault f) ≢ 7
  of_unshown u f is range own within = of_run f (λ here. range (is ∙ ap unshown.Fault here)) (λ its. own (subst IsOwnUnshown (sym is) its)) within

-- one that is drawn,
pub of_undrawn : (run : RunOptions) (u : Undrawn) (f : RunFault) → u ≡ undrawn.Fault f → IsRangeOf run u → (IsOwnUndrawn u → ⊥) → IsInRange run.workers run.limit → failure_status (failure.Fault f) ≢ 7
of_undrawn run u f is range own within = of_run run.workers run.limit f (λ here. range (is ∙ ap undrawn.Fault here)) (λ its. own (subst IsOwnUndrawn (sym is) its)) within

-- runs of a test,
pub of_test : (source text script : List ℕ) (o : TestOptions) (u : Untested) (f : RunFault) → u ≡ untested.Fault f → IsUntestedFor source text script o u → IsInRange o.workers o.limit → failure_status (failure.Fault f) ≢ 7
of_test source text script o u f is cause within = sound_fault f (λ e here. engine_cause o.workers o.limit e (subst (IsUntestedFor source text script o) (is ∙ ap untested.Fault here) cause).2 within)

pub of_test_text : (f : TestFault) → failure_status (failure.Fault (fault.Test f)) ≢ 7
of_test_text f = statuses.of_test IsSound one_sound five_sound six_sound f

-- a check,
pub of_check : (source script journal : List ℕ) (f : RunFault) → IsCheckFault source script journal f → failure_status (failure.Fault f) ≢ 7
of_check source script journal f cause = sound_fault f (λ e here. absurd (subst (IsCheckFault source script journal) here cause))

-- of a journal that is read piece by piece,
pub of_unchecked : (source script journal : List ℕ) (u : Unchecked) (f : RunFault) → u ≡ unchecked.Fault f → IsUnchecked source script journal u → failure_status (failure.Fault f) ≢ 7
of_unchecked source script journal u f is cause = of_check source script journal f (subst (IsUnchecked source script journal) is cause)

-- with a test's claims,
pub of_claims : (source text script journal : List ℕ) (f : RunFault) → IsUnclaimedFor source text script journal f → failure_status (failure.Fault f) ≢ 7
of_claims source text script journal f cause = sound_fault f (λ e here. absurd (subst (IsUnclaimedFor source text script journal) here cause))

-- with a picture,
pub of_drawing : (source script journal : List ℕ) (u : Undrawn) (f : RunFault) → u ≡ undrawn.Fault f → IsUndrawnFor source script journal u → failure_status (failure.Fault f) ≢ 7
of_drawing source script journal u f is cause = of_check source script journal f (subst (IsUndrawnFor source script journal) is cause)

-- and a text that is printed
pub of_print : (source : List ℕ) (f : RunFault) → IsPrintFault source f → failure_status (failure.Fault f) ≢ 7
of_print source f cause = sound_fault f (λ e here. absurd (subst (IsPrintFault source) here cause))

-- ---- of any job

-- no premise is needed where a failure never has that status
pub sound_anyway : {X : Type 0} (P : Type 0) (r : Result X Failure) → IfErr r (λ f. failure_status f ≢ 7) → IfErr r (λ f. P → failure_status f ≢ 7)
sound_anyway P (Ok x) sound = sound
sound_anyway P (Err f) sound = λ p. sound

-- ---- of a picture

-- where a journal isn't drawn the engine isn't to blame
pub journal_sound : (source script journal : List ℕ) (u : Undrawn) → IsUndrawnFor source script journal u → IsOwnUndrawn u → ⊥
journal_sound source script journal (undrawn.Fault (fault.Engine f)) cause own = cause
journal_sound source script journal (undrawn.Fault (fault.Syntax f)) cause own = own
journal_sound source script journal (undrawn.Fault (fault.Scope f)) cause own = own
journal_sound source script journal (undrawn.Fault (fault.Script f)) cause own = own
journal_sound source script journal (undrawn.Fault (fault.Test f)) cause own = own
journal_sound source script journal (undrawn.Fault (fault.Journal f)) cause own = own
journal_sound source script journal (undrawn.Fault (fault.Check f)) cause own = own
journal_sound source script journal (undrawn.Fault (fault.Write f)) cause own = own
journal_sound source script journal undrawn.Rows cause own = own
