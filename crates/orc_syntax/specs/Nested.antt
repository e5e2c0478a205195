-- A part of an expression stands inside it.
use Rattle.std.specs.Prelude.{◌≤◌, List, [], ◌∷◌, Some}
use Rattle.orc_lex.specs.declared.token.Span.{Span}
use Rattle.orc_syntax.specs.Tree.{Link, Seq, Prune, Tree, Leaf, Variable, Call, Operation, Val, Trees, Nil, Cons, Define, Source, span_of}

-- the inner span begins no earlier and ends no later than the outer one
abbrev pub IsInside : Span → Span → Type 0
IsInside inner outer = (outer.start ≤ inner.start) × (inner.end ≤ outer.end)

-- an operator's variable
abbrev pub IsVariableInside : Link → Span → Type 0
IsVariableInside (Seq (Some x)) span = IsInside x.span span
IsVariableInside (Prune (Some x)) span = IsInside x.span span
IsVariableInside _ span = Unit {0}

-- The names and parts of each expression stand inside its span.
abbrev mutual
  pub IsNested : Tree → Type 0
  IsNested (Leaf p span) = Unit {0}
  IsNested (Variable x) = Unit {0}
  IsNested (Call x ts span) = IsInside x.span span × AreNested ts span
  IsNested (Operation link f g span) = IsVariableInside link span × (IsInside (span_of f) span × IsNested f) × (IsInside (span_of g) span × IsNested g)
  IsNested (Val x g f span) = IsInside x.span span × (IsInside (span_of g) span × IsNested g) × (IsInside (span_of f) span × IsNested f)

  pub AreNested : Trees → Span → Type 0
  AreNested Nil span = Unit {0}
  AreNested (Cons t ts) span = (IsInside (span_of t) span × IsNested t) × AreNested ts span

abbrev pub AreBodiesNested : List Define → Type 0
AreBodiesNested [] = Unit {0}
AreBodiesNested (d ∷ ds) = IsNested d.body × AreBodiesNested ds

-- In each definition and in the main expression.
abbrev pub IsAllNested : Source → Type 0
IsAllNested s = AreBodiesNested s.definitions × IsNested s.main
