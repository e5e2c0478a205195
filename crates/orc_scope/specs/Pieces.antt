-- The parts of terms that are in no other part yet.
use Rattle.std.specs.Prelude.{◌≡◌, ◌<◌, ℕ, List, [], ◌∷◌, ◌++◌, length, map, reverse, Option, Some, None}
use Rattle.orc_scope.specs.declared.nodes.Piece.{Piece}
use Rattle.orc_scope.specs.declared.nodes.Piece.TheVariants as pieces
use Rattle.orc_scope.specs.declared.writer.Writing.{Writing}
use Rattle.orc_rules.specs.Nodes.{param_of}
use Rattle.orc_rules.specs.Term.{Term, param}
use Rattle.orc_scope.specs.Listed.{terms, term_at}
use Rattle.orc_scope.specs.Written.{as_param}

-- the term of a part
abbrev pub piece_term : List Term → Piece → Term
piece_term fs (pieces.Operand o) = param (param_of o)
piece_term fs (pieces.Node i) = term_at fs i

-- a node is there, and is no parameter
abbrev pub IsFine : List Term → Piece → Type 0
IsFine fs (pieces.Operand o) = Unit {0}
IsFine fs (pieces.Node i) = (i < length fs) × (as_param (term_at fs i) ≡ None)

abbrev pub AreFine : List Term → List Piece → Type 0
AreFine fs [] = Unit {0}
AreFine fs (p ∷ ps) = IsFine fs p × AreFine fs ps

-- the terms so far stay
abbrev pub Keeps : List Term → List Term → Type 0
Keeps fs gs = (more : List Term) × (gs ≡ fs ++ more)

-- the terms of the parts, the last one first
abbrev pub parts : Writing → List Term
parts w = reverse (map (piece_term (terms w.nodes)) w.pieces.items)

-- all parts are so
abbrev pub IsReady : Writing → Type 0
IsReady w = AreFine (terms w.nodes) w.pieces.items

-- fewer than two
abbrev pub AreFew : List Term → Type 0
AreFew [] = Unit {0}
AreFew (f ∷ []) = Unit {0}
AreFew (f ∷ g ∷ fs) = ⊥

-- what holds of two parts' nodes if they were there, and what holds if they were not
abbrev pub IfSides : (ℕ → ℕ → Type 0) → Option (ℕ × ℕ) → Type 0
IfSides p None = Unit {0}
IfSides p (Some s) = p s.0 s.1

abbrev pub OnNoSides : Type 0 → Option (ℕ × ℕ) → Type 0
OnNoSides p None = p
OnNoSides p (Some s) = Unit {0}
