-- What the answer of `orc_certify` says.
use Rattle.std.specs.Prelude.{◌≡◌, ℕ, List}
use Rattle.std.specs.declared.option.Option.{Option}
use Rattle.std.specs.Io.KnownBytes.{Keeps, Appends}
use Rattle.orc_rules.specs.Sites.{Table}
use Rattle.orc_rules.specs.Nodes.{Listing}
use Rattle.orc_rules.specs.Timed.{Context}
use Rattle.orc_rules.specs.Journal.{Place}
use Rattle.orc_rules.specs.Text.{output}
use Rattle.orc_rules.specs.Trace.{published}
use Rattle.orc_rules.specs.Verdict.{IsAt}
use Rattle.orc_rules.specs.declared.entry.Entry.{Entry}
use Rattle.orc_rules.specs.declared.entry.State.{State}
use Rattle.orc_journal.specs.declared.journal.Version.TheVariants.{Two}
use Rattle.orc_journal.specs.Written.{Written}
use Rattle.orc_journal_text.specs.Texts.{IsJournal}
use Rattle.orc_output.specs.Output.{AppendsPrefix}
use Rattle.orc_site.specs.Script.{Says}
use Rattle.orc_load.specs.Loading.{IsProgramOf}
use Rattle.orc_outcome.specs.Outcome.{EndsAt, Outcome, IsRun}
use Rattle.orc_outcome.specs.declared.end.End.{End}
use Rattle.orc_outcome.specs.declared.end.End.TheVariants as ends
use Rattle.orc_certify.specs.declared.certificate.Form.{Form}
use Rattle.orc_certify.specs.declared.certificate.Form.TheVariants.{Values, Journal}
use Rattle.orc_certify.specs.declared.certificate.Unanswered.{Unanswered}
use Rattle.orc_certify.specs.declared.certificate.Unanswered.TheVariants.{Uncertified, Unwritten}

-- what is written for a journal of these entries: a line for each value that they publish, or its text
abbrev pub shown : Form → List ℕ → List Entry → List ℕ
shown Values text es = output (published es)
shown Journal text es = text

-- the run ended by itself
abbrev pub IsOver : End → Type 0
IsOver ends.Halted = Unit {0}
IsOver ends.Quiet = Unit {0}
IsOver _ = ⊥

-- a run whose journal leads to this state has ended so, by itself
abbrev pub IsEndOf : State → End → Type 0
IsEndOf state end = IsOver end × ((limit : ℕ) (x : Context) (es : List Entry) (p : Place) → IsAt x p state → EndsAt x limit es p end)

-- the text is the journal of a run of this program with these sites, of at most `limit` entries, which ended so by itself
pub record IsRunOf (l : Listing) (t : Table) (limit : ℕ) (text : List ℕ) (j : Written) (end : End) : Type 0 where
  pub outcome : Outcome
  pub is_run : IsRun l t limit outcome
  pub is_its : j ≡ record { version = Two; entries = outcome.journal }
  pub is_text : IsJournal t.names text j
  pub ended : outcome.end ≡ end
  pub is_over : IsOver end

-- the text is the journal of such a run of the program that a source spells, with the sites that a script says
abbrev pub IsCertified : List ℕ → List ℕ → ℕ → List ℕ → Written → End → Type 0
IsCertified source script limit text j end = (l : Listing) × (t : Table) × Says script t × IsProgramOf source t l × IsRunOf l t limit text j end

-- what was written is the whole answer
abbrev pub Answers : List ℕ → List ℕ → ℕ → List ℕ → Form → Option (List ℕ) → Option (List ℕ) → End → Type 0
Answers source script limit text form old new end = (j : Written) × IsCertified source script limit text j end × Appends old new (shown form text j.entries)

-- nothing was written; or, if the output failed, a prefix of the answer
abbrev pub Leaves : List ℕ → List ℕ → ℕ → List ℕ → Form → Option (List ℕ) → Option (List ℕ) → Unanswered → Type 0
Leaves source script limit text form old new Uncertified = Keeps old new
Leaves source script limit text form old new Unwritten = (j : Written) × (end : End) × IsCertified source script limit text j end × AppendsPrefix old new (shown form text j.entries)
