-- What an engine answers is what is told of a run.
use Rattle.std.proofs.Common.{◌≡◌, ℕ, List, Option, true, refl}
use Rattle.std.specs.Prelude.{is_some}
use Rattle.orc_rules.specs.declared.value.Value.{Value}
use Rattle.orc_rules.specs.Nodes.{Listing, definitions, source}
use Rattle.orc_rules.specs.Program.{IsProgram}
use Rattle.orc_rules.specs.Sites.{Table}
use Rattle.orc_journal.specs.declared.journal.Version.TheVariants.{Two}
use Rattle.orc_journal.specs.Written.{Written}
use Rattle.orc_journal_text.specs.Texts.{AreOf}
use Rattle.orc_load.specs.Loading.{IsProgramOf}
use Rattle.orc_outcome.specs.Outcome.{IsPlayed}
use Rattle.orc_outcome.specs.declared.end.Summary.{Summary}
use Rattle.orc_run.specs.Running.{IsTold, Shows, written}
use Rattle.orc_cli.specs.Wanted.{keeps_journal}
use Rattle.orc_cli.specs.declared.job.RunOptions.{RunOptions}
use Rattle.orc_cli.specs.declared.job.Wanted.TheVariants as wanted

module _ (l : Listing) (t : Table) (options : RunOptions) (s : Summary) (values : List Value) (journal : Option Written) (played : IsPlayed l t options.limit s values journal) where
  -- what is written of its journal is told of it
  pub told : (options.wanted ≡ wanted.Journal → AreOf t.names Two played.outcome.journal) → IsTold l t options s (written options.wanted t.names played.outcome.journal)
  told fits = record { outcome = played.outcome; is_run = played.is_run; tells = played.tells; shows = refl; fits = fits }

  -- and what it answers shows its journal
  pub shown : (keeps_journal options.wanted ≡ true → is_some journal ≡ true) → Shows options.wanted values journal played.outcome.journal
  shown kept = record { shows = played.shows; is_its = played.is_its; kept = kept }

-- a program that was loaded is one that the scope check takes
pub taken : (text : List ℕ) (t : Table) (l : Listing) → IsProgramOf text t l → IsProgram (definitions l) (source l)
taken text t l is = is.2.2.program
