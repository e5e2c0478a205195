-- How deep expressions are.
use Rattle.std.specs.Prelude.{◌+◌, ◌*◌, ◌≤◌, ℕ, suc, max, List, [], ◌∷◌}
use Rattle.orc_rules.specs.declared.limits.TheConstants.{MOST_ARGUMENTS, MOST_OPERATORS, MOST_BRACKETS}
use Rattle.orc_rules.specs.Nodes.{Listing, source, definitions}
use Rattle.orc_rules.specs.Refusal.{depth}
use Rattle.orc_rules.specs.Term.{Definition}
use Rattle.orc_syntax.specs.Tree.{Tree, Leaf, Variable, Call, Operation, Val, Trees, Nil, Cons, Define, Source}

-- the number of operators of an expression
abbrev mutual
  pub operators : Tree → ℕ
  operators (Leaf p span) = 0
  operators (Variable x) = 0
  operators (Call x ts span) = operators_of_all ts
  operators (Operation link f g span) = suc (operators f + operators g)
  operators (Val x g f span) = operators g + operators f

  pub operators_of_all : Trees → ℕ
  operators_of_all Nil = 0
  operators_of_all (Cons t ts) = operators t + operators_of_all ts

-- how many calls and `val` stand within one another
abbrev mutual
  pub nesting : Tree → ℕ
  nesting (Leaf p span) = 0
  nesting (Variable x) = 0
  nesting (Call x ts span) = suc (nesting_of_all ts)
  nesting (Operation link f g span) = max (nesting f) (nesting g)
  nesting (Val x g f span) = suc (max (nesting g) (nesting f))

  pub nesting_of_all : Trees → ℕ
  nesting_of_all Nil = 0
  nesting_of_all (Cons t ts) = max (nesting t) (nesting_of_all ts)

-- no more operators, and no more calls and `val` within one another, than a source may have
abbrev pub IsShallow : Tree → Type 0
IsShallow t = (operators t ≤ MOST_OPERATORS) × (nesting t ≤ MOST_BRACKETS)

abbrev pub AreShallow : List Define → Type 0
AreShallow [] = Unit {0}
AreShallow (d ∷ ds) = IsShallow d.body × AreShallow ds

-- terms of no more levels
abbrev pub AreWithin : ℕ → List Definition → Type 0
AreWithin n [] = Unit {0}
AreWithin n (d ∷ ds) = (depth d.body ≤ n) × AreWithin n ds

-- how many levels a written-out term nests at most: one for itself, one for each operator, and for each call or `val` one and one for each argument
abbrev pub written_levels : ℕ
written_levels = 1 + (MOST_OPERATORS + (1 + MOST_ARGUMENTS) * MOST_BRACKETS)

-- each term of a shallow program nests no more levels than that
abbrev pub StaysShallow : Source → Listing → Type 0
StaysShallow s l = AreShallow s.definitions → IsShallow s.main → AreWithin written_levels (definitions l) × (depth (source l) ≤ written_levels)
