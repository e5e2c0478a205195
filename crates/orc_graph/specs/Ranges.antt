-- Lists that stand one behind another in one list.
use Rattle.std.specs.Prelude.{ℕ, ◌+◌, ◌≤◌, List, [], ◌∷◌, Option, Some, None, slice_get}
use Rattle.std.specs.List.{slice_range}
use Rattle.orc_rules.specs.declared.limits.TheConstants.{MOST_ARGUMENTS}
use Rattle.orc_rules.specs.Nodes.{Routine}
use Rattle.orc_graph.specs.declared.numbers.Range.{Range}

-- the list that a range names
abbrev pub cut : {X : Type 0} → List X → Range → List X
cut xs r = slice_range xs r.start r.end

-- each range lies within the first n items, and has at most as many items as a call has arguments
abbrev pub AreWithin : ℕ → List Range → Type 0
AreWithin n [] = Unit {0}
AreWithin n (r ∷ rs) = (r.start ≤ r.end) × (r.end ≤ n) × (r.end ≤ r.start + MOST_ARGUMENTS) × AreWithin n rs

abbrev pub params_or_none : Option Routine → List ℕ
params_or_none (Some r) = r.params
params_or_none None = []

-- the parameters of a definition, none where there is no such definition
abbrev pub params_at : List Routine → ℕ → List ℕ
params_at rs i = params_or_none (slice_get rs i)
