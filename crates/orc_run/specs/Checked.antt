-- What the check of a journal's text does.
use Rattle.std.specs.Prelude.{◌≡◌, ◌≢◌, ◌⊎◌, ℕ, List, ◌++◌, length, codes, decimal, ⊤}
use Rattle.std.specs.declared.option.Option.{Option}
use Rattle.std.specs.Io.KnownBytes.{Keeps, Appends}
use Rattle.orc_rules.specs.declared.entry.RuleFault.TheVariants as reason
use Rattle.orc_rules.specs.declared.entry.State.{State}
use Rattle.orc_rules.specs.declared.entry.State.TheVariants as state
use Rattle.orc_rules.specs.Faults.{state_word}
use Rattle.orc_rules.specs.Sites.{Table}
use Rattle.orc_rules.specs.Nodes.{Listing, source}
use Rattle.orc_rules.specs.Verdict.{IsVerdict, IsFault as Faults}
use Rattle.orc_syntax.specs.declared.fault.SyntaxFault.TheVariants as syntax
use Rattle.orc_scope.specs.declared.fault.FaultKind.TheVariants as scope
use Rattle.orc_site.specs.declared.script.ScriptFault.TheVariants as script
use Rattle.orc_site.specs.Script.{Says}
use Rattle.orc_journal_text.specs.declared.text.JournalFault.TheVariants as journal
use Rattle.orc_journal.specs.Written.{Written}
use Rattle.orc_journal_text.specs.Texts.{IsJournal, IsFault as IsBadText}
use Rattle.orc_checker.specs.Checker.{context}
use Rattle.orc_verdict.specs.Verdicts.{records_cancels, IsCutShort}
use Rattle.orc_load.specs.Loading.{IsProgramOf}
use Rattle.orc_output.specs.Output.{AppendsPrefix}
use Rattle.orc_run.specs.Running.{IsUnloaded, Runs, KeepsOr}
use Rattle.orc_outcome.specs.declared.end.End.{End}
use Rattle.orc_outcome.specs.declared.end.End.TheVariants as ends
use Rattle.orc_outcome.specs.declared.end.Summary.{Summary}
use Rattle.orc_cli.specs.declared.job.RunOptions.{RunOptions}
use Rattle.orc_cli.specs.declared.job.Wanted.TheVariants as wanted
use Rattle.orc_run.specs.declared.faults.RunFault.{RunFault}
use Rattle.orc_run.specs.declared.judge.Unchecked.{Unchecked}
use Rattle.orc_run.specs.declared.judge.Unchecked.TheVariants as unchecked
use Rattle.orc_run.specs.declared.faults.RunFault.TheVariants as fault

-- the line on an accepted journal: how many entries it has, and the state of the run behind them
abbrev pub verdict_line : ℕ → State → List ℕ
verdict_line n state = codes "ok " ++ (decimal n ++ (codes " " ++ (state_word state ++ codes "\n")))

-- the text is that of a journal, which is one of a run of the source's program with the script's sites, this table; behind it the run has this state
-- and this time
abbrev pub IsJudgedAt : List ℕ → List ℕ → List ℕ → Table → Written → State → ℕ → Type 0
IsJudgedAt text script journal t j state now = (l : Listing) × Says script t × IsProgramOf text t l × IsJournal t.names journal j
    × IsVerdict (context l t (records_cancels j.version)) (source l) j.entries state now

-- the same, with some table and at some time
abbrev pub IsJudged : List ℕ → List ℕ → List ℕ → Written → State → Type 0
IsJudged text script journal j state = (t : Table) × (now : ℕ) × IsJudgedAt text script journal t j state now

-- what was written is the line of the verdict
abbrev pub Judges : List ℕ → List ℕ → List ℕ → Option (List ℕ) → Option (List ℕ) → Type 0
Judges text script journal old new = (j : Written) × (state : State) × IsJudged text script journal j state × Appends old new (verdict_line (length j.entries) state)

-- at a fault nothing was written, or at a write fault a prefix of that line
abbrev pub LeavesUnjudged : List ℕ → List ℕ → List ℕ → Option (List ℕ) → Option (List ℕ) → RunFault → Type 0
LeavesUnjudged text script journal old new = KeepsOr ((j : Written) × (state : State) × IsJudged text script journal j state × AppendsPrefix old new (verdict_line (length j.entries) state)) old new

-- why no verdict is given: a fault of the source or the script, of the journal's text, or of the journal: its first entry that is refused, with the
-- first reason, refused memory aside
abbrev pub IsRefusal : List ℕ → List ℕ → List ℕ → RunFault → Type 0
IsRefusal text script journal (fault.Journal f) = (l : Listing) × (t : Table) × Says script t × IsProgramOf text t l × IsBadText t.names journal f
IsRefusal text script journal (fault.Check f) = (l : Listing) × (t : Table) × (j : Written) × Says script t × IsProgramOf text t l × IsJournal t.names journal j
    × (f.why ≢ reason.Memory → Faults (context l t (records_cancels j.version)) (source l) j.entries f.at f.why)
    × (f.why ≡ reason.Memory → IsCutShort (context l t (records_cancels j.version)) (source l) j.entries f.at)
IsRefusal text script journal f = IsUnloaded text script f

-- the fault of a check: one of these, or one of the output
abbrev pub IsCheckFault : List ℕ → List ℕ → List ℕ → RunFault → Type 0
IsCheckFault text script journal (fault.Write w) = Unit {0}
IsCheckFault text script journal f = IsRefusal text script journal f

-- ---- a journal that is read piece by piece

-- the source spells a program with the script's sites
abbrev pub IsLoaded : List ℕ → List ℕ → Type 0
IsLoaded text script = (l : Listing) × (t : Table) × Says script t × IsProgramOf text t l

-- why no verdict is given on it: one of these faults, or it couldn't be read; it is read only where there is a program
abbrev pub IsUnjudged : List ℕ → List ℕ → List ℕ → Unchecked → Type 0
IsUnjudged text script journal (unchecked.Fault f) = IsRefusal text script journal f
IsUnjudged text script journal unchecked.Unread = IsLoaded text script

-- the fault of its check: one of these, or one of the output
abbrev pub IsUnchecked : List ℕ → List ℕ → List ℕ → Unchecked → Type 0
IsUnchecked text script journal (unchecked.Fault f) = IsCheckFault text script journal f
IsUnchecked text script journal unchecked.Unread = IsLoaded text script

-- nothing was written where it couldn't be read
abbrev pub LeavesUnchecked : List ℕ → List ℕ → List ℕ → Option (List ℕ) → Option (List ℕ) → Unchecked → Type 0
LeavesUnchecked text script journal old new (unchecked.Fault f) = LeavesUnjudged text script journal old new f
LeavesUnchecked text script journal old new unchecked.Unread = Keeps old new

-- ---- the journal of a run

-- a text that a run of the source with the script, with this summary, wrote as its journal
abbrev pub IsOfRun : List ℕ → List ℕ → List ℕ → Summary → Type 0
IsOfRun text script journal s = (options : RunOptions) × (options.wanted ≡ wanted.Journal) × Runs text script options s journal

-- the state of a run that ended so; of one that was cut it may be any
abbrev pub StandsSo : End → State → Type 0
StandsSo ends.Halted s = s ≡ state.Halted
StandsSo ends.Quiet s = s ≡ state.Quiet
StandsSo _ s = Unit {0}

-- the line that accepts it was written: the run's number of entries, and its state
abbrev pub Accepts : Summary → Option (List ℕ) → Option (List ℕ) → Type 0
Accepts s old new = (stands : State) × StandsSo s.end stands × Appends old new (verdict_line s.entries stands)

-- why it may not be accepted all the same: the journal is beyond a limit, memory was refused, or the output failed
abbrev pub IsBeyond : RunFault → Type 0
IsBeyond (fault.Syntax f) = f ≡ syntax.Memory
IsBeyond (fault.Scope f) = f.kind ≡ scope.Memory
IsBeyond (fault.Script f) = f ≡ script.Memory
IsBeyond (fault.Journal f) = (f ≡ journal.Long) ⊎ (f ≡ journal.Memory)
IsBeyond (fault.Check f) = (f.why ≡ reason.Deep) ⊎ (f.why ≡ reason.Memory)
IsBeyond (fault.Write w) = Unit {0}
IsBeyond _ = ⊥

-- for a journal that is read piece by piece also that it couldn't be read
abbrev pub MayFail : Unchecked → Type 0
MayFail (unchecked.Fault f) = IsBeyond f
MayFail unchecked.Unread = ⊤
