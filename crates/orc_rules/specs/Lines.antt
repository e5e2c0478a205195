-- The lines of a site by their patterns, and the shapes that they have.
use Rattle.std.specs.Prelude.{ℕ, suc, List, [], ◌∷◌, ◌≡◌, ◌≤◌, ◌==◌, map, length, Bool, true, false, Option, Some, None, is_some, option_map, if◌then◌else◌}
use Rattle.std.specs.Bool.{beq}
use Rattle.std.specs.Global.{Vec}
use Rattle.std.specs.List.{AllByRecursion, list_any}
use Rattle.std.specs.Map.{lookup}
use Rattle.std.specs.Option.{option_eq}
use Rattle.std.specs.Cmp.Lexicographic.{pointwise}
use Rattle.orc_rules.specs.declared.value.Value.{Value}
use Rattle.orc_rules.specs.declared.lines.Line.{Line as CodeLine}
use Rattle.orc_rules.specs.declared.lines.TheConstants.{MOST_SHAPES}
use Rattle.orc_rules.specs.Sites.{Line, value_eq, matches}

-- a line of the code, as the definitions have it
abbrev pub line_of : CodeLine → Line
line_of l = record { patterns = l.patterns.items; answers = l.answers.items }

abbrev pub lines_of : List CodeLine → List Line
lines_of ls = map line_of ls

-- whether patterns are the same
abbrev pub patterns_eq : List (Option Value) → List (Option Value) → Bool
patterns_eq ps qs = pointwise (option_eq value_eq) ps qs

-- the place of the first line with these patterns
abbrev pub first_place : List Line → List (Option Value) → Option ℕ
first_place [] ps = None
first_place (l ∷ ls) ps = if patterns_eq l.patterns ps then Some 0 else option_map suc (first_place ls ps)

-- the place of the first line that matches these arguments; without such a line, how many there are
abbrev pub match_place : List Line → List Value → ℕ
match_place [] args = 0
match_place (l ∷ ls) args = if matches l.patterns args then 0 else suc (match_place ls args)

-- at which places patterns are values
abbrev pub shape_of : List (Option Value) → List Bool
shape_of ps = map is_some ps

-- the patterns of this shape that have these arguments' values
abbrev pub filled : List Bool → List Value → List (Option Value)
filled (true ∷ bs) (v ∷ vs) = Some v ∷ filled bs vs
filled (false ∷ bs) (v ∷ vs) = None ∷ filled bs vs
filled _ _ = []

-- whether a shape is one of these
abbrev pub is_among : List Bool → List (Vec Bool) → Bool
is_among shape shapes = list_any (λ s. pointwise beq s.items shape) shapes

-- the place that a map's entries give these patterns
abbrev pub found : List (Option Value) → List (Vec (Option Value) × ℕ) → Option ℕ
found ps places = lookup (λ k. patterns_eq ps k.items) places

-- the place that they give the patterns of this shape that match these arguments
abbrev pub place_in : List (Vec (Option Value) × ℕ) → List Bool → List Value → Option ℕ
place_in places shape args = if length shape == length args then found (filled shape args) places else None

-- an index of lines is right, unless they have too many shapes, if it gives patterns the place of the first line that has them, and has each line's
-- shape
abbrev pub Indexes : List Line → List (Vec (Option Value) × ℕ) → List (Vec Bool) → Type 0
Indexes ls places shapes = length shapes ≤ MOST_SHAPES → ((ps : List (Option Value)) → found ps places ≡ first_place ls ps) × AllByRecursion (λ l. is_among (shape_of l.patterns) shapes ≡ true) ls

-- the place that patterns have; if they have none, the new place if b
abbrev pub or_place : Option ℕ → Bool → ℕ → Option ℕ
or_place (Some k) b place = Some k
or_place None b place = if b then Some place else None

-- no shape is gone
abbrev pub Keeps : List (Vec Bool) → List (Vec Bool) → Type 0
Keeps before after = (length before ≤ length after) × ((shape : List Bool) → is_among shape before ≡ true → is_among shape after ≡ true)

-- a place was entered for these patterns, if they had none, and their shape
abbrev pub Enters : List (Option Value) → ℕ → List (Vec (Option Value) × ℕ) → List (Vec Bool) → List (Vec (Option Value) × ℕ) → List (Vec Bool) → Type 0
Enters ps place before was after now = length now ≤ MOST_SHAPES
    → ((qs : List (Option Value)) → found qs after ≡ or_place (found qs before) (patterns_eq ps qs) place) × (is_among (shape_of ps) now ≡ true) × Keeps was now
