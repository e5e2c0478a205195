-- What the nodes of an Ast spell.
use Rattle.std.specs.Prelude.{◌≡◌, ℕ, List, [], ◌∷◌, map, Option, Some, None}
use Rattle.std.specs.Borrow.{Bor}
use Rattle.orc_syntax.specs.declared.tree.Ast.{Ast}
use Rattle.orc_syntax.specs.declared.tree.Definition.{Definition}
use Rattle.orc_syntax.specs.declared.tree.Name.{Name}
use Rattle.orc_syntax.specs.declared.tree.Node.{Node}
use Rattle.orc_syntax.specs.declared.tree.Part.{Part}
use Rattle.orc_syntax.specs.declared.tree.Part.TheVariants as parts
use Rattle.orc_syntax.specs.declared.tree.Operator.{Operator}
use Rattle.orc_syntax.specs.declared.tree.Operator.TheVariants as operators
use Rattle.orc_syntax.specs.Tree.{Label, Link, Seq, Par, Prune, Other, Sort, leaf, variable, call, operation, val, Item, Tree, Define, Source, post}

-- the bytes that a borrow shows
abbrev pub text_of : Bor (List ℕ) → List ℕ
text_of b = b.now

-- what the code's values stand for: a name, an operator, what stands at a node, and a node
abbrev pub label : Name → Label
label n = record { text = n.text.now; span = n.span }

abbrev pub label_if : Option Name → Option Label
label_if None = None
label_if (Some n) = Some (label n)

abbrev pub link : Operator → Link
link (operators.Seq x) = Seq (label_if x)
link operators.Par = Par
link (operators.Prune x) = Prune (label_if x)
link operators.Other = Other

abbrev pub sort : Part → Sort
sort (parts.Plain p) = leaf p
sort (parts.Variable x) = variable (label x)
sort (parts.Call x n) = call (label x) n
sort (parts.Operation op) = operation (link op)
sort (parts.Val x) = val (label x)

abbrev pub item : Node → Item
item n = record { sort = sort n.part; span = n.span }

-- these nodes are the tree's
abbrev pub IsExpr : List Node → Tree → Type 0
IsExpr nodes t = map item nodes ≡ post t

-- this definition is that of the tree
pub record IsDefinition (d : Definition) (e : Define) : Type 0 where
  pub name : label d.name ≡ e.name
  pub parameters : map label d.parameters.items ≡ e.parameters
  pub body : IsExpr d.body.nodes.items e.body

abbrev pub AreDefinitions : List Definition → List Define → Type 0
AreDefinitions [] [] = Unit {0}
AreDefinitions [] (e ∷ es) = ⊥
AreDefinitions (d ∷ ds) [] = ⊥
AreDefinitions (d ∷ ds) (e ∷ es) = IsDefinition d e × AreDefinitions ds es

-- the Ast holds this program
pub record IsAst (ast : Ast) (s : Source) : Type 0 where
  pub definitions : AreDefinitions ast.definitions.items s.definitions
  pub main : IsExpr ast.main.nodes.items s.main
