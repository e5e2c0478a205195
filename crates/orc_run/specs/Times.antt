-- When a run published what.
use Rattle.std.specs.Prelude.{ℕ, List, [], ◌∷◌, ◌++◌, codes, decimal}
use Rattle.orc_rules.specs.Text.{value_text}
use Rattle.orc_rules.specs.declared.value.Value.{Value}
use Rattle.orc_rules.specs.declared.entry.Entry.{Entry}
use Rattle.orc_rules.specs.declared.entry.Entry.TheVariants.{Publish, Tick}

-- the line of a value that is published at this time
abbrev pub timed_line : Value → ℕ → List ℕ
timed_line v now = value_text v ++ (codes " at " ++ (decimal now ++ codes "\n"))

-- a line for each value that the entries publish, from this time on
abbrev pub timed : ℕ → List Entry → List ℕ
timed now [] = []
timed now (Publish s v ∷ es) = timed_line v now ++ timed now es
timed now (Tick t ∷ es) = timed t es
timed now (e ∷ es) = timed now es
