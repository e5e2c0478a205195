-- What halted means: nothing is left but to lose cells.
use Rattle.std.specs.Prelude.{◌≡◌, ℕ, List}
use Rattle.orc_rules.specs.Term.{Term, Definition, Halted}
use Rattle.orc_rules.specs.Step.{Act, loses, Used, Step}

-- a term that has halted can only lose a cell, and has halted after it
abbrev pub HaltedIsFinal : Type 0
HaltedIsFinal = (defs : List Definition) (used : Used) (t : Term) (a : Act) (u : Term) → Halted t → Step defs used t a u → ((c : ℕ) × (a ≡ loses c)) × Halted u
