-- Tokens that are known to wait.
use Rattle.std.specs.Prelude.{◌≡◌, ℕ, List, Bool, true}
use Rattle.orc_rules.specs.Term.{Term, Definition}
use Rattle.orc_rules.specs.Timed.{IsIn}
use Rattle.orc_frames.specs.Spelling.{whole}
use Rattle.orc_ledger_spec.specs.Records.{Records}
use Rattle.orc_frames.specs.Doing.{is_wait, what_by}
use Rattle.orc_ledger_spec.specs.Doing.{term_of}
use Rattle.orc_frames.specs.Awaiting.{cells_of}
use Rattle.orc_indexes.specs.Parking.{Parked, IsNoted}
use Rattle.orc_tables.specs.Tokens.{IsParked}
use Rattle.orc_tables.specs.declared.records.Token.{Token}

-- a token on this term waits, whatever stands round it
abbrev pub waits : List Definition → Term → Bool
waits defs u = is_wait (what_by defs whole u)

module _ (code : ℕ → Term) (defs : List Definition) (s : Records) (q : Parked) where
  -- the token in a slot waits, and is noted with each cell for which it does
  abbrev pub IsAtRest : ℕ → Token → Type 0
  IsAtRest slot t = (waits defs (term_of code s t) ≡ true) × ((cell : ℕ) → IsIn cell (cells_of (term_of code s t)) → IsNoted q cell slot t.serial)

  -- each token that is parked waits, and is noted with its cells
  abbrev pub AreAtRest : Type 0
  AreAtRest = (slot : ℕ) (t : Token) → IsParked s.slots q slot t → IsAtRest slot t
