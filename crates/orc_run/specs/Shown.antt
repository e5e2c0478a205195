-- What writing the journal of a run that has a certain outcome does.
use Rattle.std.specs.Prelude.{◌≡◌, ◌≤◌, ◌-◌, ◌⊎◌, ℕ, List, Some, length, map, slice_get}
use Rattle.std.specs.declared.option.Option.{Option}
use Rattle.std.specs.Io.KnownBytes.{Keeps, Appends}
use Rattle.orc_rules.specs.Nodes.{Listing}
use Rattle.orc_rules.specs.Sites.{Table}
use Rattle.orc_rules.specs.Trace.{published}
use Rattle.orc_rules.specs.declared.value.Value.{Value}
use Rattle.orc_journal.specs.declared.journal.Version.TheVariants.{Two}
use Rattle.orc_journal_text.specs.Texts.{journal_text}
use Rattle.orc_site.specs.Script.{Says}
use Rattle.orc_load.specs.Loading.{IsProgramOf}
use Rattle.orc_outcome.specs.Outcome.{Outcome, IsRun, IsPlayed}
use Rattle.orc_outcome.specs.declared.end.End.{End}
use Rattle.orc_outcome.specs.declared.played.Played.{Played}
use Rattle.orc_orders.specs.Survey.{IsSurvey}
use Rattle.orc_orders.specs.declared.seen.Seen.{Seen}
use Rattle.orc_schedules.specs.Ends.{IsEndOfRun}
use Rattle.orc_schedules.specs.declared.ended.Ended.{Ended}
use Rattle.orc_output.specs.Output.{AppendsPrefix}
use Rattle.orc_run.specs.Running.{IsFaultOf, IsOwnOf, KeepsOr}
use Rattle.orc_run.specs.Searched.{IsUnseen, ended_of}
use Rattle.orc_run.specs.Surveyed.{CameTo}
use Rattle.orc_scheduler.specs.declared.fault.EngineFault.TheVariants as engine
use Rattle.orc_run.specs.declared.faults.RunFault.TheVariants as fault
use Rattle.orc_run.specs.declared.shown.Unshown.{Unshown}
use Rattle.orc_run.specs.declared.shown.Unshown.TheVariants as unshown

-- the text is the journal of a run of the program with these sites that ended so and published these values
pub record IsJournalOf (l : Listing) (t : Table) (end : End) (values : List Value) (text : List ℕ) : Type 0 where
  pub limit : ℕ
  pub outcome : Outcome
  pub run : IsRun l t limit outcome
  pub ends : outcome.end ≡ end
  pub shows : published outcome.journal ≡ values
  pub lines : text ≡ journal_text t.names (record { version = Two; entries = outcome.journal })

-- among the outcomes that came up this is the one with the number, from 1; or there are fewer, and this is none of them
abbrev pub IsNumbered : List Seen → ℕ → Ended → Type 0
IsNumbered seen number e = (slice_get (map ended_of seen) (number - 1) ≡ Some e) ⊎ ((length seen ≤ number - 1) × IsUnseen seen e)

-- The text is the journal of a run of the source's program, with the sites that the script says, which has the outcome with this number: of those
-- that came up in so many orders, or another one.
pub record ShowsOutcome (source script : List ℕ) (orders limit number : ℕ) (text : List ℕ) : Type 0 where
  pub listing : Listing
  pub table : Table
  pub says : Says script table
  pub spells : IsProgramOf source table listing
  pub seen : List Seen
  pub survey : IsSurvey listing table limit orders seen
  pub outcome : Ended
  pub numbered : IsNumbered seen number outcome
  pub journal : IsJournalOf listing table outcome.end outcome.values.items text

-- such a text was written
abbrev pub HasShown : List ℕ → List ℕ → ℕ → ℕ → ℕ → Option (List ℕ) → Option (List ℕ) → Type 0
HasShown source script orders limit number old new = (text : List ℕ) × ShowsOutcome source script orders limit number text × Appends old new text

-- at a fault nothing was written, or at a write fault a prefix of such a text
abbrev pub LeavesUnshown : List ℕ → List ℕ → ℕ → ℕ → ℕ → Option (List ℕ) → Option (List ℕ) → Unshown → Type 0
LeavesUnshown source script orders limit number old new (unshown.Fault f) = KeepsOr ((text : List ℕ) × ShowsOutcome source script orders limit number text × AppendsPrefix old new text) old new f
LeavesUnshown source script orders limit number old new _ = Keeps old new

-- in so many orders the source's program came to fewer outcomes than the number says
abbrev pub HasFewer : List ℕ → List ℕ → ℕ → ℕ → ℕ → Type 0
HasFewer source script orders limit number = (seen : List Seen) × CameTo source script orders limit seen × (length seen ≤ number - 1)

-- among the outcomes that came up this is the one with the number, from 1; or there are fewer, this is none of them, and a run ends with it
abbrev pub IsThere : Listing → Table → List Seen → ℕ → Ended → Type 0
IsThere l t seen number e = (slice_get (map ended_of seen) (number - 1) ≡ Some e) ⊎ ((length seen ≤ number - 1) × IsUnseen seen e × IsEndOfRun l t e)

-- The source's program, with the sites that the script says, has an outcome with this number: one of those that came up in so many orders, or another
-- one with which a run ends.
pub record HasOutcome (source script : List ℕ) (orders limit number : ℕ) : Type 0 where
  pub listing : Listing
  pub table : Table
  pub says : Says script table
  pub spells : IsProgramOf source table listing
  pub seen : List Seen
  pub survey : IsSurvey listing table limit orders seen
  pub outcome : Ended
  pub there : IsThere listing table seen number outcome

-- why none is shown: a fault has the cause that it has of a run; or no order came to the outcome with this number; or there is one, and no run was
-- found that has it
abbrev pub IsUnshownFor : List ℕ → List ℕ → ℕ → ℕ → ℕ → Unshown → Type 0
IsUnshownFor source script orders limit number (unshown.Fault f) = IsFaultOf source script f
IsUnshownFor source script orders limit number (unshown.NoOutcome n) = (n ≡ number) × HasFewer source script orders limit number
IsUnshownFor source script orders limit number (unshown.NoRun n) = (n ≡ number) × HasOutcome source script orders limit number

-- a fault for which the engine itself is to blame
abbrev pub IsOwnUnshown : Unshown → Type 0
IsOwnUnshown (unshown.Fault f) = IsOwnOf f
IsOwnUnshown _ = ⊥

-- ---- as it is written

-- the journal of a run that was played was written, and that run has the outcome
abbrev pub HasWritten : Listing → Table → Played → End → List Value → Option (List ℕ) → Option (List ℕ) → Type 0
HasWritten l t p end values old new = (limit : ℕ) → IsPlayed l t limit p.summary p.published.items p.journal → (text : List ℕ) × IsJournalOf l t end values text × Appends old new text

-- of that journal nothing was written, or at a write fault a prefix
abbrev pub LeavesUnwritten : Listing → Table → Played → End → List Value → Option (List ℕ) → Option (List ℕ) → Unshown → Type 0
LeavesUnwritten l t p end values old new (unshown.Fault f) = KeepsOr ((limit : ℕ) → IsPlayed l t limit p.summary p.published.items p.journal → (text : List ℕ) × IsJournalOf l t end values text × AppendsPrefix old new text) old new f
LeavesUnwritten l t p end values old new _ = Keeps old new

-- the journal of a run was written that has some outcome to which no order came
abbrev pub WritesUnseen : Listing → Table → List Seen → Option (List ℕ) → Option (List ℕ) → Type 0
WritesUnseen l t seen old new = (e : Ended) × IsUnseen seen e × ((text : List ℕ) × IsJournalOf l t e.end e.values.items text × Appends old new text)

-- of that journal nothing was written, or at a write fault a prefix
abbrev pub LeavesUnseen : Listing → Table → List Seen → Option (List ℕ) → Option (List ℕ) → Unshown → Type 0
LeavesUnseen l t seen old new (unshown.Fault f) = KeepsOr ((e : Ended) × IsUnseen seen e × ((text : List ℕ) × IsJournalOf l t e.end e.values.items text × AppendsPrefix old new text)) old new f
LeavesUnseen l t seen old new _ = Keeps old new

-- why the journal of a run that was played isn't written: the run doesn't have the outcome, or the output is at fault
abbrev pub IsUnwrittenBy : ℕ → Unshown → Type 0
IsUnwrittenBy number (unshown.NoRun n) = n ≡ number
IsUnwrittenBy number (unshown.Fault (fault.Write w)) = Unit {0}
IsUnwrittenBy number _ = ⊥

-- why none is shown of the outcomes to which no order came: there is none with the number, or a run ends with one and none was found that does, or
-- memory was refused, or the output is at fault
abbrev pub IsUnshownBy : Listing → Table → List Seen → ℕ → Unshown → Type 0
IsUnshownBy l t seen number (unshown.NoOutcome n) = n ≡ number
IsUnshownBy l t seen number (unshown.NoRun n) = (n ≡ number) × ((e : Ended) × IsUnseen seen e × IsEndOfRun l t e)
IsUnshownBy l t seen number (unshown.Fault (fault.Write w)) = Unit {0}
IsUnshownBy l t seen number (unshown.Fault (fault.Engine f)) = f ≡ engine.Memory
IsUnshownBy l t seen number _ = ⊥
