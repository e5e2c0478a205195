-- Why a command line isn't done.
use Rattle.std.specs.Prelude.{◌≡◌, ◌⊎◌, ℕ, List, Option, option_map}
use Rattle.orc_outcome.specs.declared.end.Summary.{Summary}
use Rattle.orc_cli.specs.declared.job.Asked.{Asked}
use Rattle.orc_cli.specs.declared.job.Job.{Job}
use Rattle.orc_cli.specs.declared.job.Job.TheVariants as job
use Rattle.orc_cli.specs.declared.job.RunOptions.{RunOptions}
use Rattle.orc_cli.specs.declared.job.TestOptions.{TestOptions}
use Rattle.orc_run.specs.Checked.{Accepts, IsCheckFault}
use Rattle.orc_run.specs.Claimed.{IsUnclaimedFor}
use Rattle.orc_run.specs.Commands.{IsDone, LeavesUndone, MayBeRefused, MayBeUntaken}
use Rattle.orc_run.specs.Drawn.{IsRunUndrawnFor, IsUndrawnFor}
use Rattle.orc_run.specs.Failures.{failure_status}
use Rattle.orc_run.specs.Inputs.{IsHeld, IsRead}
use Rattle.orc_run.specs.Printed.{IsPrintFault}
use Rattle.orc_run.specs.Running.{IsFaultOf}
use Rattle.orc_run.specs.Shown.{IsUnshownFor}
use Rattle.orc_run.specs.TestFaults.{IsUntestedFor}
use Rattle.orc_run.specs.declared.failures.Failure.{Failure}
use Rattle.orc_run.specs.declared.failures.Failure.TheVariants as failure
use Rattle.orc_run.specs.declared.picture.Undrawn.{Undrawn}
use Rattle.orc_run.specs.declared.picture.Undrawn.TheVariants as undrawn
use Rattle.orc_run.specs.declared.shown.Unshown.{Unshown}
use Rattle.orc_run.specs.declared.shown.Unshown.TheVariants as unshown
use Rattle.orc_run.specs.declared.test_command.Untested.{Untested}
use Rattle.orc_run.specs.declared.test_command.Untested.TheVariants as untested

-- ---- with what the files hold

-- P holds of the bytes of the file and of the script,
abbrev pub OfTwo : (List ℕ → Option (List ℕ)) → List ℕ → Option (List ℕ) → (List ℕ → List ℕ → Type 0) → Type 0
OfTwo holds file script P = (source read : List ℕ) × IsHeld (holds file) source × IsRead holds script read × P source read

-- of the bytes of a further file between them,
abbrev pub OfThree : (List ℕ → Option (List ℕ)) → List ℕ → List ℕ → Option (List ℕ) → (List ℕ → List ℕ → List ℕ → Type 0) → Type 0
OfThree holds file other script P = (source text read : List ℕ) × IsHeld (holds file) source × IsHeld (holds other) text × IsRead holds script read × P source text read

-- and of the bytes of the file, a journal, a test and the script
abbrev pub OfFour : (List ℕ → Option (List ℕ)) → List ℕ → List ℕ → List ℕ → Option (List ℕ) → (List ℕ → List ℕ → List ℕ → List ℕ → Type 0) → Type 0
OfFour holds file journal test script P = (source lines text read : List ℕ) × IsHeld (holds file) source × IsHeld (holds journal) lines × IsHeld (holds test) text × IsRead holds script read × P source lines text read

-- ---- why a job of each kind isn't done: a file couldn't be read, or the failure has its cause in what the files hold

-- a run, or runs in many orders
abbrev pub IsRunUndone : (List ℕ → Option (List ℕ)) → List ℕ → Option (List ℕ) → Failure → Type 0
IsRunUndone holds file script (failure.Unread path f) = Unit {0}
IsRunUndone holds file script (failure.Fault f) = OfTwo holds file script (λ source read. IsFaultOf source read f)
IsRunUndone holds file script _ = ⊥

-- the journal of an outcome
abbrev pub HasShowCause : (List ℕ → Option (List ℕ)) → List ℕ → Option (List ℕ) → ℕ → ℕ → ℕ → Unshown → Type 0
HasShowCause holds file script orders limit number u = OfTwo holds file script (λ source read. IsUnshownFor source read orders limit number u)

abbrev pub IsShowUndone : (List ℕ → Option (List ℕ)) → List ℕ → Option (List ℕ) → ℕ → ℕ → ℕ → Failure → Type 0
IsShowUndone holds file script orders limit number (failure.Unread path f) = Unit {0}
IsShowUndone holds file script orders limit number (failure.Fault f) = HasShowCause holds file script orders limit number (unshown.Fault f)
IsShowUndone holds file script orders limit number (failure.NoOutcome n) = HasShowCause holds file script orders limit number (unshown.NoOutcome n)
IsShowUndone holds file script orders limit number (failure.NoRun n) = HasShowCause holds file script orders limit number (unshown.NoRun n)
IsShowUndone holds file script orders limit number _ = ⊥

-- a check
abbrev pub IsCheckUndone : (List ℕ → Option (List ℕ)) → List ℕ → List ℕ → Option (List ℕ) → Failure → Type 0
IsCheckUndone holds file journal script (failure.Unread path f) = Unit {0}
IsCheckUndone holds file journal script (failure.Fault f) = OfThree holds file journal script (λ source lines read. IsCheckFault source read lines f)
IsCheckUndone holds file journal script _ = ⊥

-- the claims of a test on a journal
abbrev pub IsClaimUndone : (List ℕ → Option (List ℕ)) → List ℕ → List ℕ → Option (List ℕ) → List ℕ → Failure → Type 0
IsClaimUndone holds file journal script test (failure.Unread path f) = Unit {0}
IsClaimUndone holds file journal script test (failure.Fault f) = OfFour holds file journal test script (λ source lines text read. IsUnclaimedFor source text read lines f)
IsClaimUndone holds file journal script test _ = ⊥

-- a picture of a journal
abbrev pub HasDrawCause : (List ℕ → Option (List ℕ)) → List ℕ → List ℕ → Option (List ℕ) → Undrawn → Type 0
HasDrawCause holds file journal script u = OfThree holds file journal script (λ source lines read. IsUndrawnFor source read lines u)

abbrev pub IsDrawUndone : (List ℕ → Option (List ℕ)) → List ℕ → List ℕ → Option (List ℕ) → Failure → Type 0
IsDrawUndone holds file journal script (failure.Unread path f) = Unit {0}
IsDrawUndone holds file journal script (failure.Fault f) = HasDrawCause holds file journal script (undrawn.Fault f)
IsDrawUndone holds file journal script failure.Rows = HasDrawCause holds file journal script undrawn.Rows
IsDrawUndone holds file journal script _ = ⊥

-- a picture of a run
abbrev pub HasDrawRunCause : (List ℕ → Option (List ℕ)) → List ℕ → Option (List ℕ) → RunOptions → Undrawn → Type 0
HasDrawRunCause holds file script run u = OfTwo holds file script (λ source read. IsRunUndrawnFor source read run u)

abbrev pub IsDrawRunUndone : (List ℕ → Option (List ℕ)) → List ℕ → Option (List ℕ) → RunOptions → Failure → Type 0
IsDrawRunUndone holds file script run (failure.Unread path f) = Unit {0}
IsDrawRunUndone holds file script run (failure.Fault f) = HasDrawRunCause holds file script run (undrawn.Fault f)
IsDrawRunUndone holds file script run failure.Rows = HasDrawRunCause holds file script run undrawn.Rows
IsDrawRunUndone holds file script run _ = ⊥

-- a printed program
abbrev pub IsPrintUndone : (List ℕ → Option (List ℕ)) → List ℕ → Failure → Type 0
IsPrintUndone holds file (failure.Unread path f) = Unit {0}
IsPrintUndone holds file (failure.Fault f) = (source : List ℕ) × IsHeld (holds file) source × IsPrintFault source f
IsPrintUndone holds file _ = ⊥

-- a test
abbrev pub HasTestCause : (List ℕ → Option (List ℕ)) → List ℕ → List ℕ → Option (List ℕ) → TestOptions → Untested → Type 0
HasTestCause holds file test script o u = OfThree holds file test script (λ source text read. IsUntestedFor source text read o u)

abbrev pub IsTestUndone : (List ℕ → Option (List ℕ)) → List ℕ → List ℕ → Option (List ℕ) → TestOptions → Failure → Type 0
IsTestUndone holds file test script o (failure.Unread path f) = Unit {0}
IsTestUndone holds file test script o (failure.Fault f) = HasTestCause holds file test script o (untested.Fault f)
IsTestUndone holds file test script o (failure.NoFailure n) = HasTestCause holds file test script o (untested.NoFailure n)
IsTestUndone holds file test script o (failure.NoJournal n) = HasTestCause holds file test script o (untested.NoJournal n)
IsTestUndone holds file test script o _ = ⊥

-- ---- any job

-- this failure is why a job isn't done; `holds` says what is known of the files
abbrev pub IsUndone : (List ℕ → Option (List ℕ)) → Job → Failure → Type 0
IsUndone holds (job.Run program options) f = IsRunUndone holds program.file.now (option_map (λ p. p.now) program.script) f
IsUndone holds (job.Outcomes program options) f = IsRunUndone holds program.file.now (option_map (λ p. p.now) program.script) f
IsUndone holds (job.Search program options) f = IsRunUndone holds program.file.now (option_map (λ p. p.now) program.script) f
IsUndone holds (job.Show program options) f = IsShowUndone holds program.file.now (option_map (λ p. p.now) program.script) options.survey.orders options.survey.limit options.number f
IsUndone holds (job.Check program journal) f = IsCheckUndone holds program.file.now journal.now (option_map (λ p. p.now) program.script) f
IsUndone holds (job.Claims program journal test) f = IsClaimUndone holds program.file.now journal.now (option_map (λ p. p.now) program.script) test.now f
IsUndone holds (job.Draw program journal options) f = IsDrawUndone holds program.file.now journal.now (option_map (λ p. p.now) program.script) f
IsUndone holds (job.DrawRun program options) f = IsDrawRunUndone holds program.file.now (option_map (λ p. p.now) program.script) options.run f
IsUndone holds (job.Print file) f = IsPrintUndone holds file.now f
IsUndone holds (job.Test program test options) f = IsTestUndone holds program.file.now test.now (option_map (λ p. p.now) program.script) options f

-- what a command line asks for gives this status: the job was done, and what was written and the status say what came of it; or it wasn't, and the
-- status is that of the failure
abbrev pub ComesTo : (List ℕ → Option (List ℕ)) → Asked → Option (List ℕ) → Option (List ℕ) → ℕ → Type 0
ComesTo holds a old new status = IsDone holds a.explain a.job old new status ⊎ ((f : Failure) × IsUndone holds a.job f × LeavesUndone f old new × (status ≡ failure_status f))

-- the journal of a run was accepted, with the status of a job that is done; or it wasn't, for one of the causes of `MayBeRefused`, which has this status
abbrev pub IsAcceptedOr : Summary → Option (List ℕ) → Option (List ℕ) → ℕ → Type 0
IsAcceptedOr s old new status = ((status ≡ 0) × Accepts s old new) ⊎ ((f : Failure) × MayBeRefused f × (status ≡ failure_status f))

-- the job was done with the journal of a run; or it wasn't, for one of the causes of `MayBeUntaken`, which has this status
abbrev pub IsTakenOr : (List ℕ → Option (List ℕ)) → Asked → Option (List ℕ) → Option (List ℕ) → ℕ → Type 0
IsTakenOr holds a old new status = IsDone holds a.explain a.job old new status ⊎ ((f : Failure) × MayBeUntaken f × (status ≡ failure_status f))

-- some job isn't done, for a cause that has this status
abbrev pub HasCause : (List ℕ → Option (List ℕ)) → ℕ → Type 0
HasCause holds status = (j : Job) × (f : Failure) × IsUndone holds j f × (status ≡ failure_status f)
