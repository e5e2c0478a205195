-- What the run of a source does.
use Rattle.std.specs.Prelude.{◌≡◌, ℕ, List, true, is_some, IfSome}
use Rattle.std.specs.declared.option.Option.{Option}
use Rattle.std.specs.Io.KnownBytes.{Keeps, Appends}
use Rattle.orc_rules.specs.Sites.{Table}
use Rattle.orc_rules.specs.Nodes.{Listing}
use Rattle.orc_rules.specs.Text.{output}
use Rattle.orc_rules.specs.Trace.{published}
use Rattle.orc_rules.specs.declared.entry.Entry.{Entry}
use Rattle.orc_rules.specs.declared.value.Value.{Value}
use Rattle.orc_journal.specs.declared.journal.Version.TheVariants.{Two}
use Rattle.orc_journal_text.specs.Texts.{AreOf, journal_text}
use Rattle.orc_site.specs.Script.{Says}
use Rattle.orc_load.specs.Loading.{IsProgramOf, Loads, IsLoadFault}
use Rattle.orc_load.specs.declared.fault.LoadFault.{LoadFault}
use Rattle.orc_load.specs.declared.fault.LoadFault.TheVariants as load
use Rattle.orc_journal.specs.Written.{Written}
use Rattle.orc_outcome.specs.Outcome.{Outcome, IsRun, Tells}
use Rattle.orc_outcome.specs.declared.end.Summary.{Summary}
use Rattle.orc_scheduler.specs.Faults.{IsOwn}
use Rattle.orc_output.specs.Output.{AppendsPrefix}
use Rattle.orc_run.specs.Times.{timed}
use Rattle.orc_cli.specs.Wanted.{keeps_journal}
use Rattle.orc_cli.specs.declared.job.RunOptions.{RunOptions}
use Rattle.orc_cli.specs.declared.job.Wanted.{Wanted}
use Rattle.orc_cli.specs.declared.job.Wanted.TheVariants as wanted
use Rattle.orc_run.specs.declared.faults.RunFault.{RunFault}
use Rattle.orc_run.specs.declared.faults.RunFault.TheVariants as fault

-- what is written of a journal: a line for each value that it publishes, with its time where that is wanted, or its text
abbrev pub written : Wanted → List (List ℕ) → List Entry → List ℕ
written wanted.Values names es = output (published es)
written wanted.Times names es = timed 0 es
written wanted.Journal names es = journal_text names (record { version = Two; entries = es })

-- the values and the journal that an engine answers are those of these entries, and the journal is there where that is wanted
pub record Shows (w : Wanted) (values : List Value) (journal : Option Written) (es : List Entry) : Type 0 where
  pub shows : values ≡ published es
  pub is_its : IfSome journal (λ j. j ≡ record { version = Two; entries = es })
  pub kept : keeps_journal w ≡ true → is_some journal ≡ true

-- the summary is that of a run of the program with these sites, and the text is what is wanted of that run; each entry of a journal that is written
-- has a line
pub record IsTold (l : Listing) (t : Table) (options : RunOptions) (s : Summary) (text : List ℕ) : Type 0 where
  pub outcome : Outcome
  pub is_run : IsRun l t options.limit outcome
  pub tells : Tells s outcome
  pub shows : text ≡ written options.wanted t.names outcome.journal
  pub fits : options.wanted ≡ wanted.Journal → AreOf t.names Two outcome.journal

-- this is the summary and the text of a run of the source's program with the sites that the script says
abbrev pub Runs : List ℕ → List ℕ → RunOptions → Summary → List ℕ → Type 0
Runs source script options s text = (l : Listing) × (t : Table) × Says script t × IsProgramOf source t l × IsTold l t options s text

-- what was written is the whole text of a run with this summary
abbrev pub Ran : List ℕ → List ℕ → RunOptions → Option (List ℕ) → Option (List ℕ) → Summary → Type 0
Ran source script options old new s = (text : List ℕ) × Runs source script options s text × Appends old new text

-- a prefix was written of what is wanted of a run of the source's program with the sites that the script says
abbrev pub LeavesPart : List ℕ → List ℕ → RunOptions → Option (List ℕ) → Option (List ℕ) → Type 0
LeavesPart source script options old new = (l : Listing) × (t : Table) × (outcome : Outcome) × Says script t × IsProgramOf source t l × IsRun l t options.limit outcome × AppendsPrefix old new (written options.wanted t.names outcome.journal)

-- at a fault nothing was written; only at one of the output `cut` holds in its place, which says of which text a prefix was written
abbrev pub KeepsOr : Type 0 → Option (List ℕ) → Option (List ℕ) → RunFault → Type 0
KeepsOr cut old new (fault.Write w) = cut
KeepsOr cut old new _ = Keeps old new

-- at a fault nothing was written, or at a write fault a prefix of the text of a run
abbrev pub LeavesAtFault : List ℕ → List ℕ → RunOptions → Option (List ℕ) → Option (List ℕ) → RunFault → Type 0
LeavesAtFault source script options old new = KeepsOr (LeavesPart source script options old new) old new

-- a fault of loading as a fault of a run
abbrev pub of_load : LoadFault → RunFault
of_load (load.Syntax f) = fault.Syntax f
of_load (load.Script f) = fault.Script f
of_load (load.Scope f) = fault.Scope f

-- this fault is the cause why no program is loaded
abbrev pub IsUnloaded : List ℕ → List ℕ → RunFault → Type 0
IsUnloaded source script (fault.Syntax f) = IsLoadFault source script (load.Syntax f)
IsUnloaded source script (fault.Script f) = IsLoadFault source script (load.Script f)
IsUnloaded source script (fault.Scope f) = IsLoadFault source script (load.Scope f)
IsUnloaded source script _ = ⊥

-- the fault of a run: why no program is loaded; or one of memory or the engine, where one is; or one of the output
abbrev pub IsFaultOf : List ℕ → List ℕ → RunFault → Type 0
IsFaultOf source script (fault.Journal f) = ⊥
IsFaultOf source script (fault.Test f) = ⊥
IsFaultOf source script (fault.Check f) = ⊥
IsFaultOf source script (fault.Engine f) = Loads source script
IsFaultOf source script (fault.Write w) = Unit {0}
IsFaultOf source script f = IsUnloaded source script f

-- a fault that is neither of the source, nor of the script, nor of the output
abbrev pub IsOther : RunFault → Type 0
IsOther (fault.Write w) = ⊥
IsOther (fault.Syntax f) = ⊥
IsOther (fault.Scope f) = ⊥
IsOther (fault.Script f) = ⊥
IsOther (fault.Journal f) = ⊥
IsOther (fault.Test f) = ⊥
IsOther (fault.Check f) = ⊥
IsOther _ = Unit {0}

-- a fault for which the engine itself is to blame
abbrev pub IsOwnOf : RunFault → Type 0
IsOwnOf (fault.Engine e) = IsOwn e
IsOwnOf _ = ⊥
