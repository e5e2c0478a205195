-- What the drawing of a journal's text does. Of the picture itself nothing is said.
use Rattle.std.specs.Prelude.{◌≡◌, ◌⊎◌, ℕ, List}
use Rattle.std.specs.declared.option.Option.{Option}
use Rattle.std.specs.Io.KnownBytes.{Keeps, Appends}
use Rattle.orc_rules.specs.declared.entry.State.{State}
use Rattle.orc_journal.specs.Written.{Written}
use Rattle.orc_run.specs.Checked.{IsBeyond, IsCheckFault, IsJudged}
use Rattle.orc_output.specs.Output.{AppendsPrefix}
use Rattle.orc_engine.specs.Ranges.{IsInRange}
use Rattle.orc_scheduler.specs.declared.fault.EngineFault.TheVariants as engine
use Rattle.orc_run.specs.Running.{IsFaultOf, IsOwnOf, Runs, KeepsOr}
use Rattle.orc_outcome.specs.declared.end.Summary.{Summary}
use Rattle.orc_cli.specs.declared.job.RunOptions.{RunOptions}
use Rattle.orc_cli.specs.declared.job.Wanted.TheVariants as wanted
use Rattle.orc_run.specs.declared.picture.Undrawn.{Undrawn}
use Rattle.orc_run.specs.declared.picture.Undrawn.TheVariants as undrawn
use Rattle.orc_run.specs.declared.faults.RunFault.TheVariants as fault

-- the check accepts the journal
abbrev pub IsAccepted : List ℕ → List ℕ → List ℕ → Type 0
IsAccepted text script journal = (j : Written) × (state : State) × IsJudged text script journal j state

-- what was written is a picture, of a journal that the check accepts
abbrev pub Draws : List ℕ → List ℕ → List ℕ → Option (List ℕ) → Option (List ℕ) → Type 0
Draws text script journal old new = IsAccepted text script journal × ((picture : List ℕ) × Appends old new picture)

-- where nothing was drawn nothing was written, or at a write fault a prefix of such a picture
abbrev pub LeavesUndrawn : List ℕ → List ℕ → List ℕ → Option (List ℕ) → Option (List ℕ) → Undrawn → Type 0
LeavesUndrawn text script journal old new (undrawn.Fault f) = KeepsOr (IsAccepted text script journal × ((picture : List ℕ) × AppendsPrefix old new picture)) old new f
LeavesUndrawn text script journal old new _ = Keeps old new

-- why nothing was drawn: a fault of the check, or too many rows of a journal that the check accepts
abbrev pub IsUndrawnFor : List ℕ → List ℕ → List ℕ → Undrawn → Type 0
IsUndrawnFor text script journal (undrawn.Fault f) = IsCheckFault text script journal f
IsUndrawnFor text script journal undrawn.Rows = IsAccepted text script journal

-- ---- the journal of a run

-- why the journal that a run wrote isn't drawn: it is beyond a limit, memory was refused, the output failed, or the picture would have too many rows
abbrev pub IsBeyondDrawing : Undrawn → Type 0
IsBeyondDrawing (undrawn.Fault f) = IsBeyond f
IsBeyondDrawing undrawn.Rows = Unit {0}

-- the options of a run, with its journal as what is wanted of it
abbrev pub with_journal : RunOptions → RunOptions
with_journal o = record o { wanted = wanted.Journal }

-- what was written is a picture of the journal of such a run, which the check accepts
abbrev pub DrawsRun : List ℕ → List ℕ → RunOptions → Option (List ℕ) → Option (List ℕ) → Type 0
DrawsRun source script run old new = (journal : List ℕ) × (s : Summary) × Runs source script (with_journal run) s journal × Draws source script journal old new

-- where none was drawn nothing was written, or at a write fault a prefix of a picture
abbrev pub LeavesUndrawnRun : Option (List ℕ) → Option (List ℕ) → Undrawn → Type 0
LeavesUndrawnRun old new (undrawn.Fault f) = KeepsOr ((picture : List ℕ) × AppendsPrefix old new picture) old new f
LeavesUndrawnRun old new _ = Keeps old new

-- why a run isn't made, or not to its end
abbrev pub IsUnrunFor : List ℕ → List ℕ → Undrawn → Type 0
IsUnrunFor source script (undrawn.Fault f) = IsFaultOf source script f
IsUnrunFor source script undrawn.Rows = ⊥

-- why none was drawn: a fault of the run; or such a run's journal wasn't drawn
abbrev pub IsRunUndrawnFor : List ℕ → List ℕ → RunOptions → Undrawn → Type 0
IsRunUndrawnFor source script run u = IsUnrunFor source script u ⊎ ((journal : List ℕ) × (s : Summary) × Runs source script (with_journal run) s journal × IsUndrawnFor source script journal u × IsBeyondDrawing u)

-- the fault is that the number of workers or the limit is out of range, and not where they are within it
abbrev pub IsRangeOf : RunOptions → Undrawn → Type 0
IsRangeOf run u = u ≡ undrawn.Fault (fault.Engine engine.Range) → IsInRange run.workers run.limit → ⊥

-- a fault for which the engine itself is to blame
abbrev pub IsOwnUndrawn : Undrawn → Type 0
IsOwnUndrawn (undrawn.Fault f) = IsOwnOf f
IsOwnUndrawn _ = ⊥

-- why a journal that the check accepts isn't drawn
abbrev pub IsUndrawable : Undrawn → Type 0
IsUndrawable (undrawn.Fault (fault.Write w)) = Unit {0}
IsUndrawable undrawn.Rows = Unit {0}
IsUndrawable _ = ⊥
