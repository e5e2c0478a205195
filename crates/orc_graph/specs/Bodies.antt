-- Definitions whose parameters stand one behind another in one list.
use Rattle.std.specs.Prelude.{ℕ, ◌≤◌, List, [], ◌∷◌}
use Rattle.orc_rules.specs.Nodes.{Routine}
use Rattle.orc_graph.specs.Ranges.{cut}
use Rattle.orc_graph.specs.declared.definitions.Body.{Body}

-- the definition that a stored body means; its parameters are a range of these names
abbrev pub routine_in : List ℕ → Body → Routine
routine_in names b = record { params = cut names b.params; body = b.node }

-- the parameters of each definition lie within the first n names
abbrev pub AreInside : ℕ → List Body → Type 0
AreInside n [] = Unit {0}
AreInside n (b ∷ bs) = (b.params.start ≤ b.params.end) × (b.params.end ≤ n) × AreInside n bs
