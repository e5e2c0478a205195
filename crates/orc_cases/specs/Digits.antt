-- A way by its number.
use Rattle.std.specs.Prelude.{ℕ, ◌/◌, ◌%◌, List, [], ◌∷◌, ◌++◌, length, slice_get}
use Rattle.std.specs.Option.{option_to_list}
use Rattle.orc_cases.specs.Choices.{Choice}
use Rattle.orc_cases.specs.Ways.{Way, combinations}

-- the combination at a place, whose digits are what each line takes
abbrev pub way_at : List (List Choice) → ℕ → Way
way_at [] n = []
way_at (cs ∷ css) n = option_to_list (slice_get cs (n / length (combinations css))) ++ way_at css (n % length (combinations css))
