-- Programs as the rules take them.
use Rattle.std.specs.Prelude.{ℕ, List, length}
use Rattle.orc_rules.specs.Lost.{IsSource, AreSource}
use Rattle.orc_rules.specs.Named.{CallsWithin, BodiesCallWithin}
use Rattle.orc_rules.specs.Nodes.{Listing, source, definitions}
use Rattle.orc_rules.specs.Program.{IsProgram}

-- a program by the rules: no name is free but parameters, definitions and sites are there, and nothing has run
pub record IsLawful (sites : List (List ℕ)) (l : Listing) : Type 0 where
  pub program : IsProgram (definitions l) (source l)
  pub source_sites : CallsWithin (length sites) (source l)
  pub body_sites : BodiesCallWithin (length sites) (definitions l)
  pub is_source : IsSource (source l)
  pub are_source : AreSource (definitions l)
