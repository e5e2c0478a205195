-- The journal of a run in which a claim of a test fails.
use Rattle.std.specs.Prelude.{◌≡◌, ℕ, List, Some, slice_get, true}
use Rattle.std.specs.declared.option.Option.{Option}
use Rattle.std.specs.Io.KnownBytes.{Appends}
use Rattle.orc_rules.specs.Nodes.{Listing}
use Rattle.orc_rules.specs.Sites.{Table}
use Rattle.orc_rules.specs.declared.entry.Entry.{Entry}
use Rattle.orc_journal.specs.declared.journal.Version.TheVariants.{Two}
use Rattle.orc_journal_text.specs.Texts.{AreOf, journal_text}
use Rattle.orc_site.specs.Script.{Says}
use Rattle.orc_load.specs.Loading.{IsProgramOf}
use Rattle.orc_claims.specs.declared.claim.Claim.{Claim}
use Rattle.orc_ways.specs.Values.{sites_of}
use Rattle.orc_outcome.specs.Outcome.{Outcome, IsRun}
use Rattle.orc_outcome.specs.declared.end.End.{End}
use Rattle.orc_tally.specs.Sight.{fails, sight}
use Rattle.orc_orders.specs.Trials.{claim_sites, state_at}
use Rattle.orc_orders.specs.declared.trials.Trials.{Trials}

-- the claim at this place fails in a run with these sites that has this journal, and ended so at this time
pub record FailsIn (t : Trials) (table : Table) (claim : ℕ) (es : List Entry) (end : End) (now : ℕ) : Type 0 where
  pub its : Claim
  pub is_its : slice_get t.claims.now claim ≡ Some its
  pub breaks : fails its (sight (claim_sites table (sites_of t.sites.now)) es (state_at end) now) ≡ true

-- the text is the journal of a run of the source's program with this script, within the limit, in which the claim at this place fails
pub record IsJournalOfFailure (t : Trials) (script : List ℕ) (claim : ℕ) (text : List ℕ) : Type 0 where
  pub table : Table
  pub says : Says script table
  pub listing : Listing
  pub spells : IsProgramOf t.source.now table listing
  pub outcome : Outcome
  pub run : IsRun listing table t.limit outcome
  pub breaks : FailsIn t table claim outcome.journal outcome.end outcome.now
  pub lines : text ≡ journal_text table.names (record { version = Two; entries = outcome.journal })
  pub fits : AreOf table.names Two outcome.journal

-- such a text was written
abbrev pub HasShownFailure : Trials → List ℕ → ℕ → Option (List ℕ) → Option (List ℕ) → Type 0
HasShownFailure t script claim old new = (text : List ℕ) × IsJournalOfFailure t script claim text × Appends old new text
