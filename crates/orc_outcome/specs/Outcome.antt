-- What a run of a program is.
use Rattle.std.specs.Prelude.{◌≡◌, ◌≤◌, ℕ, List, [], length, true, IfSome}
use Rattle.std.specs.declared.option.Option.{Option}
use Rattle.orc_rules.specs.declared.value.Value.{Value}
use Rattle.orc_rules.specs.declared.entry.Entry.{Entry}
use Rattle.orc_rules.specs.Term.{Halted}
use Rattle.orc_rules.specs.Sites.{Table}
use Rattle.orc_rules.specs.Nodes.{Listing, definitions, source}
use Rattle.orc_rules.specs.Timed.{Context, IsQuiet}
use Rattle.orc_rules.specs.Marked.{erase}
use Rattle.orc_rules.specs.Journal.{Place, Journal, begin, moment}
use Rattle.orc_rules.specs.Trace.{published}
use Rattle.orc_journal.specs.declared.journal.Version.TheVariants.{Two}
use Rattle.orc_journal.specs.Sizes.{IsCrowded}
use Rattle.orc_journal.specs.Written.{Written, count}
use Rattle.orc_outcome.specs.declared.end.End.{End}
use Rattle.orc_outcome.specs.declared.end.End.TheVariants as ends
use Rattle.orc_outcome.specs.declared.end.Summary.{Summary}

-- what a run depends on: the program's definitions and the sites; cancels are recorded
abbrev pub context : Listing → Table → Context
context l t = record { definitions = definitions l; sites = t.sites; cancels = true }

-- a run with this limit of entries, cancels not counted, can end so: Halted if its term has halted; Quiet if it is quiet; Limit if it has as many
-- entries as the limit and isn't quiet; Full only if a limit of the engine can have been reached
abbrev pub EndsAt : Context → ℕ → List Entry → Place → End → Type 0
EndsAt x limit es p ends.Halted = Halted (erase p.marked)
EndsAt x limit es p ends.Quiet = IsQuiet x (moment p)
EndsAt x limit es p ends.Limit = (count es ≡ limit) × (IsQuiet x (moment p) → ⊥)
EndsAt x limit es p ends.Full = IsCrowded es
EndsAt x limit es p ends.Memory = Unit {0}

-- what a whole run was: its journal, how it ended, and the time at its end
pub record Outcome : Type 0 where
  pub journal : List Entry
  pub end : End
  pub now : ℕ

-- the outcome is that of a run of the program with these sites: its journal has at most `limit` entries, cancels not counted, and leads by the rules
-- from the program's term to a place where the run can end so and no cancel is due
pub record IsRun (l : Listing) (t : Table) (limit : ℕ) (outcome : Outcome) : Type 0 where
  pub place : Place
  pub leads : Journal (context l t) (begin (source l)) outcome.journal place
  pub ends : EndsAt (context l t) limit outcome.journal place outcome.end
  pub paid : place.to_cancel ≡ []
  pub now : outcome.now ≡ place.now
  pub within : count outcome.journal ≤ limit

-- the summary is that of the outcome
pub record Tells (s : Summary) (o : Outcome) : Type 0 where
  pub end : s.end ≡ o.end
  pub entries : s.entries ≡ length o.journal
  pub now : s.now ≡ o.now
  pub published : s.published ≡ length (published o.journal)

-- what an engine returns: the summary of a run of the program with these sites, what it published, and the run's journal, if one was kept
pub record IsPlayed (l : Listing) (t : Table) (limit : ℕ) (s : Summary) (values : List Value) (journal : Option Written) : Type 0 where
  pub outcome : Outcome
  pub is_run : IsRun l t limit outcome
  pub tells : Tells s outcome
  pub shows : values ≡ published outcome.journal
  pub is_its : IfSome journal (λ j. j ≡ record { version = Two; entries = outcome.journal })
