-- What every call of a ledger keeps.
use Rattle.std.specs.Prelude.{◌≡◌, ℕ, List}
use Rattle.orc_rules.specs.Nodes.{Listing, code, definitions}
use Rattle.orc_rules.specs.Sites.{Site}
use Rattle.orc_calls.specs.Counting.{AreCounted}
use Rattle.orc_journal.specs.declared.journal.Version.{Version}
use Rattle.orc_journal.specs.declared.journal.Version.TheVariants.{Two}
use Rattle.orc_ledger_spec.specs.Brought.{AreBrought}
use Rattle.orc_ledger_spec.specs.Records.{Records, Lawful}
use Rattle.orc_ledger_spec.specs.Next.{AreGrouped, numbers_of, AreSizes}
use Rattle.orc_ledger_spec.specs.Told.{AreTold}
use Rattle.orc_indexes.specs.Parking.{Parked}
use Rattle.orc_ledger_spec.specs.AtRest.{AreAtRest}

-- what holds between two calls of a ledger, but for what the next record adds
pub record Kept (l : Listing) (sites : List Site) (counts : List (List ℕ × ℕ)) (sizes : List ℕ) (s : Records) : Type 0 where
  -- the journal leads from the program's term to a place that the records spell
  pub lawful : Lawful l sites s
  -- each token, call and side is in the group of its step, and groups are nested as their sides
  pub grouped : AreGrouped (numbers_of s) s
  -- of each pending call the table of sites says what its record has
  pub told : AreTold sites lawful.place.calls s.calls
  -- `counts` has how many calls were made of each site that scripts answer, by the arguments
  pub counted : AreCounted sites counts lawful.place.calls
  -- `sizes` has how many members each group has
  pub sized : AreSizes sizes s
  -- there are no more records than the journal's entries have brought
  pub brought : AreBrought s

-- `Kept`, and: each token that is parked waits, the journal has the second version, and the limit is the run's
pub record IsKept (l : Listing) (sites : List Site) (limit : ℕ) (v : Version) (counts : List (List ℕ × ℕ)) (sizes : List ℕ) (q : Parked) (s : Records) : Type 0 where
  pub kept : Kept l sites counts sizes s
  pub rest : AreAtRest (code l) (definitions l) s q
  pub version : v ≡ Two
  pub limited : s.limit ≡ limit
