-- What the records of a ledger are, for those who prove things of what they do.
use Rattle.std.specs.Prelude.{List}
use Rattle.orc_rules.specs.Nodes.{Listing}
use Rattle.orc_rules.specs.Sites.{Site}
use Rattle.orc_ledger_spec.specs.Records.{Records, Lawful}
use Rattle.orc_ledger_spec.specs.Next.{AreGrouped, numbers_of}

-- the journal leads to a marked term that the records describe, and their groups are nested as their sides
pub record Stands (l : Listing) (sites : List Site) (s : Records) : Type 0 where
  pub lawful : Lawful l sites s
  pub grouped : AreGrouped (numbers_of s) s
