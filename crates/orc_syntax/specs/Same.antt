-- Programs without their places: what they say, wherever it stands.
use Rattle.std.specs.Prelude.{◌≡◌, ℕ, List, ◌++◌, map, Some, None}
use Rattle.std.specs.Str.{IsUtf8}
use Rattle.orc_lex.specs.declared.token.Span.{Span}
use Rattle.orc_syntax.specs.Tree.{Label, Link, Seq, Par, Prune, Other, Tree, Leaf, Variable, Call, Operation, Val, Trees, Nil, Cons, Define, Source}
use Rattle.orc_syntax.specs.Text.{SpellsTokens}

abbrev pub nowhere : Span
nowhere = record { start = 0; end = 0 }

abbrev pub bare_label : Label → Label
bare_label x = record { text = x.text; span = nowhere }

abbrev pub bare_link : Link → Link
bare_link (Seq None) = Seq None
bare_link (Seq (Some x)) = Seq (Some (bare_label x))
bare_link Par = Par
bare_link (Prune None) = Prune None
bare_link (Prune (Some x)) = Prune (Some (bare_label x))
bare_link Other = Other

abbrev mutual
  pub bare : Tree → Tree
  bare (Leaf p span) = Leaf p nowhere
  bare (Variable x) = Variable (bare_label x)
  bare (Call x ts span) = Call (bare_label x) (bare_trees ts) nowhere
  bare (Operation link f g span) = Operation (bare_link link) (bare f) (bare g) nowhere
  bare (Val x g f span) = Val (bare_label x) (bare g) (bare f) nowhere

  pub bare_trees : Trees → Trees
  bare_trees Nil = Nil
  bare_trees (Cons t ts) = Cons (bare t) (bare_trees ts)

abbrev pub bare_define : Define → Define
bare_define d = record { name = bare_label d.name; parameters = map bare_label d.parameters; body = bare d.body }

abbrev pub bare_source : Source → Source
bare_source s = record { definitions = map bare_define s.definitions; main = bare s.main }

-- These programs differ in their places alone.
abbrev pub IsSame : Source → Source → Type 0
IsSame s t = bare_source s ≡ bare_source t

-- The text is UTF-8, and its tokens spell the program but for its places.
abbrev pub SpellsSame : List ℕ → Source → Type 0
SpellsSame text s = (t : Source) × IsSame t s × IsUtf8 text × SpellsTokens text t

-- The text that was appended to `old` spells the program, except for the places of its parts.
abbrev pub AppendsSame : List ℕ → List ℕ → Source → Type 0
AppendsSame old new s = (text : List ℕ) × (new ≡ old ++ text) × SpellsSame text s
