-- Programs as trees, and their nodes in the order in which they are stored.
use Rattle.std.specs.Prelude.{ℕ, suc, List, [], ◌∷◌, ◌++◌, Option}
use Rattle.orc_lex.specs.declared.token.Span.{Span}
use Rattle.orc_lex.specs.declared.token.Plain.{Plain}

-- a name with its place
pub record Label : Type 0 where
  pub text : List ℕ
  pub span : Span

-- what joins two expressions
pub data Link : Type 0 where
  Seq : (variable : Option Label) → Link
  Par : Link
  Prune : (variable : Option Label) → Link
  Other : Link

-- an expression with its place, and the arguments of a call
mutual
  pub data Tree : Type 0 where
    Leaf : (p : Plain) → (span : Span) → Tree
    Variable : (name : Label) → Tree
    Call : (name : Label) → (arguments : Trees) → (span : Span) → Tree
    Operation : (link : Link) → (left right : Tree) → (span : Span) → Tree
    Val : (name : Label) → (bound body : Tree) → (span : Span) → Tree

  pub data Trees : Type 0 where
    Nil : Trees
    Cons : (first : Tree) → (others : Trees) → Trees

-- a definition
pub record Define : Type 0 where
  pub name : Label
  pub parameters : List Label
  pub body : Tree

-- a program as it is written
pub record Source : Type 0 where
  pub definitions : List Define
  pub main : Tree

-- what stands at a node; its parts stand before it
pub data Sort : Type 0 where
  leaf : (p : Plain) → Sort
  variable : (name : Label) → Sort
  call : (name : Label) → (arguments : ℕ) → Sort
  operation : (link : Link) → Sort
  val : (name : Label) → Sort

-- a node
pub record Item : Type 0 where
  pub sort : Sort
  pub span : Span

abbrev pub item : Sort → Span → Item
item sort span = record { sort = sort; span = span }

abbrev pub count : Trees → ℕ
count Nil = 0
count (Cons t ts) = suc (count ts)

-- where a tree stands
abbrev pub span_of : Tree → Span
span_of (Leaf p span) = span
span_of (Variable x) = x.span
span_of (Call x ts span) = span
span_of (Operation link f g span) = span
span_of (Val x g f span) = span

-- the nodes of a tree: its parts from left to right, then its own
abbrev mutual
  pub post : Tree → List Item
  post (Leaf p span) = item (leaf p) span ∷ []
  post (Variable x) = item (variable x) x.span ∷ []
  post (Call x ts span) = posts ts ++ item (call x (count ts)) span ∷ []
  post (Operation link f g span) = post f ++ (post g ++ item (operation link) span ∷ [])
  post (Val x g f span) = post g ++ (post f ++ item (val x) span ∷ [])

  pub posts : Trees → List Item
  posts Nil = []
  posts (Cons t ts) = post t ++ posts ts
