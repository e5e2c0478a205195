-- The statuses of command lines, and what they leave on standard output.
use Rattle.std.specs.Prelude.{◌≡◌, ◌⊎◌, ◌<◌, ℕ, List, Some, ⊤, Bool, false, cond, nat_eq, option_map}
use Rattle.std.specs.declared.option.Option.{Option}
use Rattle.std.specs.Io.KnownBytes.{Keeps}
use Rattle.orc_outcome.specs.Status.{end_status_of}
use Rattle.orc_outcome.specs.declared.end.End.{End}
use Rattle.orc_outcome.specs.declared.end.End.TheVariants as ends
use Rattle.orc_outcome.specs.declared.end.Summary.{Summary}
use Rattle.orc_run.specs.Checked.{IsBeyond, IsOfRun, Judges}
use Rattle.orc_run.specs.Claimed.{HasClaimed}
use Rattle.orc_run.specs.Drawn.{Draws, DrawsRun}
use Rattle.orc_run.specs.Inputs.{IsHeld, IsKnown, IsRead}
use Rattle.orc_run.specs.Printed.{Prints}
use Rattle.orc_run.specs.Running.{Ran}
use Rattle.orc_run.specs.Searched.{HasSearched}
use Rattle.orc_run.specs.Shown.{HasShown}
use Rattle.orc_run.specs.Surveyed.{HasSurveyed}
use Rattle.orc_run.specs.Called.{Named}
use Rattle.orc_run.specs.Tested.{HasFailing}
use Rattle.orc_cli.specs.declared.job.Job.{Job}
use Rattle.orc_cli.specs.declared.job.Job.TheVariants as job
use Rattle.orc_cli.specs.declared.job.ProgramPaths.{ProgramPaths}
use Rattle.orc_run.specs.declared.failures.Failure.{Failure}
use Rattle.orc_run.specs.declared.failures.Failure.TheVariants as failure
use Rattle.orc_run.specs.declared.faults.RunFault.TheVariants as fault
use Rattle.orc_cli.specs.declared.job.RunOptions.{RunOptions}
use Rattle.orc_cli.specs.declared.job.TestOptions.{TestOptions}

-- what was written is the whole text of a run of the file's program with the script's sites, and the status says how it ended; `holds` says what is
-- known of the files
abbrev pub HasRun : (List ℕ → Option (List ℕ)) → List ℕ → Option (List ℕ) → RunOptions → Option (List ℕ) → Option (List ℕ) → ℕ → Type 0
HasRun holds file script options old new status = (source read : List ℕ) × (s : Summary) × IsHeld (holds file) source × IsRead holds script read × Ran source read options old new s × (status ≡ end_status_of s.end)

-- what was written are the outcomes of so many orders of the file's program with the script's sites
abbrev pub HasTold : (List ℕ → Option (List ℕ)) → List ℕ → Option (List ℕ) → ℕ → ℕ → Option (List ℕ) → Option (List ℕ) → ℕ → Type 0
HasTold holds file script orders limit old new status = (source read : List ℕ) × IsHeld (holds file) source × IsRead holds script read × HasSurveyed source read orders limit old new × (status ≡ 0)

-- what was written are those outcomes, and what a search through all the program's schedules found, of so many states at most; the status is 0
-- exactly if the text says that this is all
abbrev pub HasToldAll : (List ℕ → Option (List ℕ)) → List ℕ → Option (List ℕ) → ℕ → ℕ → ℕ → Option (List ℕ) → Option (List ℕ) → ℕ → Type 0
HasToldAll holds file script orders limit states old new status = (source read : List ℕ) × (all : Bool) × IsHeld (holds file) source × IsRead holds script read × HasSearched source read orders limit states old new all × (status ≡ cond all 0 4)

-- what was written is the journal of a run that has the outcome with this number
abbrev pub HasShownOf : (List ℕ → Option (List ℕ)) → List ℕ → Option (List ℕ) → ℕ → ℕ → ℕ → Option (List ℕ) → Option (List ℕ) → ℕ → Type 0
HasShownOf holds file script orders limit number old new status = (source read : List ℕ) × IsHeld (holds file) source × IsRead holds script read × HasShown source read orders limit number old new × (status ≡ 0)

-- what was written is the line of the verdict on the journal
abbrev pub HasJudged : (List ℕ → Option (List ℕ)) → List ℕ → List ℕ → Option (List ℕ) → Option (List ℕ) → Option (List ℕ) → ℕ → Type 0
HasJudged holds file journal script old new status = (source text read : List ℕ) × IsHeld (holds file) source × IsHeld (holds journal) text × IsRead holds script read × Judges source read text old new × (status ≡ 0)

-- what was written is the line of the verdict on the journal and what the claims of a test say of it, and the status is 0 exactly if no claim fails
abbrev pub HasHeld : (List ℕ → Option (List ℕ)) → List ℕ → List ℕ → Option (List ℕ) → List ℕ → Option (List ℕ) → Option (List ℕ) → ℕ → Type 0
HasHeld holds file journal script test old new status = (source lines text read : List ℕ) × (failing : ℕ) × IsHeld (holds file) source × IsHeld (holds journal) lines × IsHeld (holds test) text × IsRead holds script read × HasClaimed source text read lines old new failing × (status ≡ cond (nat_eq failing 0) 0 1)

-- what was written is a picture of the journal, which the check accepts
abbrev pub HasDrawn : (List ℕ → Option (List ℕ)) → List ℕ → List ℕ → Option (List ℕ) → Option (List ℕ) → Option (List ℕ) → ℕ → Type 0
HasDrawn holds file journal script old new status = (source text read : List ℕ) × IsHeld (holds file) source × IsHeld (holds journal) text × IsRead holds script read × Draws source read text old new × (status ≡ 0)

-- what was written is a picture of the journal of a run of the file's program with the script's sites
abbrev pub HasDrawnRun : (List ℕ → Option (List ℕ)) → List ℕ → Option (List ℕ) → RunOptions → Option (List ℕ) → Option (List ℕ) → ℕ → Type 0
HasDrawnRun holds file script run old new status = (source read : List ℕ) × IsHeld (holds file) source × IsRead holds script read × DrawsRun source read run old new × (status ≡ 0)

-- what was written is the printed text of the file's program
abbrev pub HasPrinted : (List ℕ → Option (List ℕ)) → List ℕ → Option (List ℕ) → Option (List ℕ) → ℕ → Type 0
HasPrinted holds file old new status = (source : List ℕ) × IsHeld (holds file) source × Prints source old new × (status ≡ 0)

-- what was written reports a test of the file's program, with explanations where they are asked for, and the status is 0 exactly if no claim fails
abbrev pub HasTested : (List ℕ → Option (List ℕ)) → List ℕ → List ℕ → Option (List ℕ) → TestOptions → Bool → Option (List ℕ) → Option (List ℕ) → ℕ → Type 0
HasTested holds file test script options explains old new status = (source text read : List ℕ) × (failing : ℕ) × IsHeld (holds file) source × IsHeld (holds test) text × IsRead holds script read × HasFailing source text read (record { source = file; test = test; script = script }) options explains old new failing × (status ≡ cond (nat_eq failing 0) 0 1)

-- a job was done, with this status; `explains` says whether explanations are asked for
abbrev pub IsDone : (List ℕ → Option (List ℕ)) → Bool → Job → Option (List ℕ) → Option (List ℕ) → ℕ → Type 0
IsDone holds explains (job.Run program options) old new status = HasRun holds program.file.now (option_map (λ p. p.now) program.script) options old new status
IsDone holds explains (job.Outcomes program options) old new status = HasTold holds program.file.now (option_map (λ p. p.now) program.script) options.orders options.limit old new status
IsDone holds explains (job.Search program options) old new status = HasToldAll holds program.file.now (option_map (λ p. p.now) program.script) options.survey.orders options.survey.limit options.states old new status
IsDone holds explains (job.Show program options) old new status = HasShownOf holds program.file.now (option_map (λ p. p.now) program.script) options.survey.orders options.survey.limit options.number old new status
IsDone holds explains (job.Check program journal) old new status = HasJudged holds program.file.now journal.now (option_map (λ p. p.now) program.script) old new status
IsDone holds explains (job.Claims program journal test) old new status = HasHeld holds program.file.now journal.now (option_map (λ p. p.now) program.script) test.now old new status
IsDone holds explains (job.Draw program journal options) old new status = HasDrawn holds program.file.now journal.now (option_map (λ p. p.now) program.script) old new status
IsDone holds explains (job.DrawRun program options) old new status = HasDrawnRun holds program.file.now (option_map (λ p. p.now) program.script) options.run old new status
IsDone holds explains (job.Print file) old new status = HasPrinted holds file.now old new status
IsDone holds explains (job.Test program test options) old new status = HasTested holds program.file.now test.now (option_map (λ p. p.now) program.script) options explains old new status

-- what was written is the whole text of a run that ended so
abbrev pub HasEnded : End → Option (List ℕ) → Option (List ℕ) → Type 0
HasEnded end old new = (options : RunOptions) × (source script : List ℕ) × (s : Summary) × Ran source script options old new s × (s.end ≡ end)

-- what was written is the whole text of a run that was cut by its limit, or by one of the engine's
abbrev pub WasCut : Option (List ℕ) → Option (List ℕ) → Type 0
WasCut old new = HasEnded ends.Limit old new ⊎ HasEnded ends.Full old new

-- what was written is the text of a search that says that it didn't find all
abbrev pub TellsNotAll : Option (List ℕ) → Option (List ℕ) → Type 0
TellsNotAll old new = (source script : List ℕ) × (orders limit states : ℕ) × HasSearched source script orders limit states old new false

-- what was written reports a test, of a program or of a journal, in which some claim fails
abbrev pub TellsOfFailures : Option (List ℕ) → Option (List ℕ) → Type 0
TellsOfFailures old new = ((options : TestOptions) × (source text script : List ℕ) × (names : Named) × (explains : Bool) × (failing : ℕ) × HasFailing source text script names options explains old new failing × (0 < failing))
    ⊎ ((source text script journal : List ℕ) × (failing : ℕ) × HasClaimed source text script journal old new failing × (0 < failing))

-- the files are known to hold a source, a script and the journal that a run of them wrote, whose summary this is
abbrev pub HoldsRun : (List ℕ → Option (List ℕ)) → ProgramPaths → List ℕ → Summary → Type 0
HoldsRun holds program journal s = (source text read : List ℕ) × (holds program.file.now ≡ Some source) × (holds journal ≡ Some text) × IsKnown holds (option_map (λ p. p.now) program.script) read × IsOfRun source read text s

-- a job checks such a journal
abbrev pub ChecksRun : (List ℕ → Option (List ℕ)) → Job → Summary → Type 0
ChecksRun holds (job.Check program journal) s = HoldsRun holds program journal.now s
ChecksRun holds _ s = ⊥

-- a job draws such a journal, or holds claims against it
abbrev pub TakesJournal : (List ℕ → Option (List ℕ)) → Job → Summary → Type 0
TakesJournal holds (job.Draw program journal options) s = HoldsRun holds program journal.now s
TakesJournal holds (job.Claims program journal test) s = HoldsRun holds program journal.now s
TakesJournal holds _ s = ⊥

-- why such a journal may not be accepted all the same: a file couldn't be read, or one of the causes of `IsBeyond`
abbrev pub MayBeRefused : Failure → Type 0
MayBeRefused (failure.Unread path f) = ⊤
MayBeRefused (failure.Fault f) = IsBeyond f
MayBeRefused _ = ⊥

-- why such a job may not be done: one of these, the picture would have too many rows, or the text of the claims is no test
abbrev pub MayBeUntaken : Failure → Type 0
MayBeUntaken failure.Rows = ⊤
MayBeUntaken (failure.Fault (fault.Test f)) = ⊤
MayBeUntaken f = MayBeRefused f

-- a file could not be read
abbrev pub IsUnread : Failure → Type 0
IsUnread (failure.Unread path f) = ⊤
IsUnread (failure.Fault f) = ⊥
IsUnread failure.Rows = ⊥
IsUnread (failure.NoFailure n) = ⊥
IsUnread (failure.NoOutcome n) = ⊥
IsUnread (failure.NoRun n) = ⊥
IsUnread (failure.NoJournal n) = ⊥

-- nothing was written, unless the output was at fault
abbrev pub LeavesUndone : Failure → Option (List ℕ) → Option (List ℕ) → Type 0
LeavesUndone (failure.Fault (fault.Write w)) old new = ⊤
LeavesUndone f old new = Keeps old new
