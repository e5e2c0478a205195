-- The grammar: how a list of tokens is made up, and what it spells.
use Rattle.std.specs.Prelude.{◌≡◌, ℕ, ◌≤◌, List, [], ◌∷◌, ◌++◌, Some, None, Bool, true, false, ◌&&◌}
use Rattle.orc_lex.specs.declared.token.Span.{Span}
use Rattle.orc_lex.specs.declared.token.Plain.{Plain}
use Rattle.orc_lex.specs.declared.token.Joint.{Joint}
use Rattle.orc_lex.specs.declared.token.Joint.TheVariants as joints
use Rattle.orc_lex.specs.declared.token.Side.{Side}
use Rattle.orc_lex.specs.declared.token.Side.TheVariants as sides
use Rattle.orc_lex.specs.Tokens.{Word, One, Join, Arrow, Open, Close, Comma, Assign, Def, Val, Lexeme, token}
use Rattle.orc_syntax.specs.Tree as trees
use Rattle.orc_syntax.specs.Tree.{Label, Link, Seq, Par, Prune, Other, Tree, Leaf, Variable, Call, Operation, Trees, Nil, Cons, Define, Source}

-- an operator as it is written: one sign, or two with a variable between them
pub data Sign : Type 0 where
  Single : (j : Joint) → (at : Span) → Sign
  Double : (s : Side) → (first : Span) → (x : Label) → (second : Span) → Sign

-- how an expression is written, brackets and all: a derivation of the grammar
mutual
  pub data Writing : Type 0 where
    plain : (p : Plain) → (at : Span) → Writing
    name : (x : Label) → Writing
    call : (x : Label) → (opening : Span) → (arguments : Writings) → (closing : Span) → Writing
    brackets : (opening : Span) → (inner : Writing) → (closing : Span) → Writing
    operation : (sign : Sign) → (left right : Writing) → Writing
    binding : (keyword : Span) → (x : Label) → (equals : Span) → (bound body : Writing) → Writing

  pub data Writings : Type 0 where
    nothing : Writings
    last : (w : Writing) → Writings
    more : (w : Writing) → (comma : Span) → (ws : Writings) → Writings

-- a parameter behind the first one, with the comma before it
pub record Parameter : Type 0 where
  pub comma : Span
  pub name : Label

-- the parameters of a definition
pub data Parameters : Type 0 where
  without : Parameters
  given : (first : Label) → (others : List Parameter) → Parameters

-- `def f(a, b) =`
pub record Head : Type 0 where
  pub keyword : Span
  pub name : Label
  pub opening : Span
  pub parameters : Parameters
  pub closing : Span
  pub equals : Span

-- how a program is written: definitions, then the main expression
pub data Program : Type 0 where
  main : (w : Writing) → Program
  define : (head : Head) → (body : Writing) → (rest : Program) → Program

abbrev pub word : Label → Lexeme
word x = token (Word x.text) x.span

-- the tokens of an operator
abbrev pub sign_tokens : Sign → List Lexeme
sign_tokens (Single j at) = token (Join j) at ∷ []
sign_tokens (Double s first x second) = token (Arrow s) first ∷ word x ∷ token (Arrow s) second ∷ []

abbrev pub link_of : Joint → Link
link_of joints.Seq = Seq None
link_of joints.Par = Par
link_of joints.Prune = Prune None
link_of joints.Other = Other

abbrev pub link_by : Side → Label → Link
link_by sides.Right x = Seq (Some x)
link_by sides.Left x = Prune (Some x)

-- the operator that it is
abbrev pub link : Sign → Link
link (Single j at) = link_of j
link (Double s first x second) = link_by s x

-- the tokens of an expression, in order
abbrev mutual
  pub tokens : Writing → List Lexeme
  tokens (plain p at) = token (One p) at ∷ []
  tokens (name x) = word x ∷ []
  tokens (call x opening arguments closing) = word x ∷ token Open opening ∷ (tokens_of_all arguments ++ token Close closing ∷ [])
  tokens (brackets opening inner closing) = token Open opening ∷ (tokens inner ++ token Close closing ∷ [])
  tokens (operation sign left right) = tokens left ++ (sign_tokens sign ++ tokens right)
  tokens (binding keyword x equals bound body) = token Val keyword ∷ word x ∷ token Assign equals ∷ (tokens bound ++ tokens body)

  pub tokens_of_all : Writings → List Lexeme
  tokens_of_all nothing = []
  tokens_of_all (last w) = tokens w
  tokens_of_all (more w comma ws) = tokens w ++ (token Comma comma ∷ tokens_of_all ws)

abbrev pub other_tokens : List Parameter → List Lexeme
other_tokens [] = []
other_tokens (p ∷ ps) = token Comma p.comma ∷ word p.name ∷ other_tokens ps

abbrev pub parameter_tokens : Parameters → List Lexeme
parameter_tokens without = []
parameter_tokens (given first others) = word first ∷ other_tokens others

-- the tokens of `def f(a, b) =`
abbrev pub head_tokens : Head → List Lexeme
head_tokens h = token Def h.keyword ∷ word h.name ∷ token Open h.opening ∷ (parameter_tokens h.parameters ++ token Close h.closing ∷ token Assign h.equals ∷ [])

-- the tokens of a program
abbrev pub program_tokens : Program → List Lexeme
program_tokens (main w) = tokens w
program_tokens (define head body rest) = head_tokens head ++ (tokens body ++ program_tokens rest)

-- where an expression begins and ends, its outer brackets counted
abbrev pub start_of : Writing → ℕ
start_of (plain p at) = at.start
start_of (name x) = x.span.start
start_of (call x opening arguments closing) = x.span.start
start_of (brackets opening inner closing) = opening.start
start_of (operation sign left right) = start_of left
start_of (binding keyword x equals bound body) = keyword.start

abbrev pub end_of : Writing → ℕ
end_of (plain p at) = at.end
end_of (name x) = x.span.end
end_of (call x opening arguments closing) = closing.end
end_of (brackets opening inner closing) = closing.end
end_of (operation sign left right) = end_of right
end_of (binding keyword x equals bound body) = end_of body

abbrev pub span : ℕ → ℕ → Span
span start end = record { start = start; end = end }

-- the tree that it spells: brackets leave nothing
abbrev mutual
  pub tree : Writing → Tree
  tree (plain p at) = Leaf p at
  tree (name x) = Variable x
  tree (call x opening arguments closing) = Call x (trees_of arguments) (span x.span.start closing.end)
  tree (brackets opening inner closing) = tree inner
  tree (operation sign left right) = Operation (link sign) (tree left) (tree right) (span (start_of left) (end_of right))
  tree (binding keyword x equals bound body) = trees.Val x (tree bound) (tree body) (span keyword.start (end_of body))

  pub trees_of : Writings → Trees
  trees_of nothing = Nil
  trees_of (last w) = Cons (tree w) Nil
  trees_of (more w comma ws) = Cons (tree w) (trees_of ws)

abbrev pub names_of : List Parameter → List Label
names_of [] = []
names_of (p ∷ ps) = p.name ∷ names_of ps

abbrev pub labels_of : Parameters → List Label
labels_of without = []
labels_of (given first others) = first ∷ names_of others

-- a definition that a head and a body spell
abbrev pub definition : Head → Writing → Define
definition head body = record { name = head.name; parameters = labels_of head.parameters; body = tree body }

abbrev pub definitions : Program → List Define
definitions (main w) = []
definitions (define head body rest) = definition head body ∷ definitions rest

abbrev pub main_of : Program → Tree
main_of (main w) = tree w
main_of (define head body rest) = main_of rest

-- what a program spells
abbrev pub source : Program → Source
source p = record { definitions = definitions p; main = main_of p }

-- how tightly an operator binds: `;` least, `>x>` most, and a `val` (0) less than any
abbrev pub level : Link → ℕ
level Other = 1
level (Prune x) = 2
level Par = 3
level (Seq x) = 4

-- how tightly its left side binds at least: `;`, `<x<` and `|` group to the left
abbrev pub left_level : Link → ℕ
left_level Other = 1
left_level (Prune x) = 2
left_level Par = 3
left_level (Seq x) = 5

-- how tightly its right side binds at least: `>x>` groups to the right
abbrev pub right_level : Link → ℕ
right_level Other = 2
right_level (Prune x) = 3
right_level Par = 4
right_level (Seq x) = 4

-- its last token is a name
abbrev pub ends_in_name : Writing → Bool
ends_in_name (plain p at) = false
ends_in_name (name x) = true
ends_in_name (call x opening arguments closing) = false
ends_in_name (brackets opening inner closing) = false
ends_in_name (operation sign left right) = ends_in_name right
ends_in_name (binding keyword x equals bound body) = ends_in_name body

-- its first token is a bracket
abbrev pub begins_in_bracket : Writing → Bool
begins_in_bracket (plain p at) = false
begins_in_bracket (name x) = false
begins_in_bracket (call x opening arguments closing) = false
begins_in_bracket (brackets opening inner closing) = true
begins_in_bracket (operation sign left right) = begins_in_bracket left
begins_in_bracket (binding keyword x equals bound body) = false

abbrev pub program_begins_in_bracket : Program → Bool
program_begins_in_bracket (main w) = begins_in_bracket w
program_begins_in_bracket (define head body rest) = false

-- A name with a bracket behind it is always a call, so of two neighbours the first doesn't end in a name where the second begins in a bracket.
abbrev pub IsApart : Writing → Bool → Type 0
IsApart w in_bracket = (ends_in_name w && in_bracket) ≡ false

-- The expression binds at least as tightly as n, its parts as tightly as their places ask, and each comma has an argument behind it.
abbrev mutual
  pub IsAt : ℕ → Writing → Type 0
  IsAt n (plain p at) = Unit {0}
  IsAt n (name x) = Unit {0}
  IsAt n (call x opening arguments closing) = AreArguments arguments
  IsAt n (brackets opening inner closing) = IsAt 0 inner
  IsAt n (operation sign left right) = (n ≤ level (link sign)) × IsAt (left_level (link sign)) left × IsAt (right_level (link sign)) right
  IsAt n (binding keyword x equals bound body) = (n ≤ 0) × IsAt 0 bound × IsAt 0 body × IsApart bound (begins_in_bracket body)

  pub AreArguments : Writings → Type 0
  AreArguments nothing = Unit {0}
  AreArguments (last w) = IsAt 0 w
  AreArguments (more w comma ws) = IsAt 0 w × AreMore ws

  pub AreMore : Writings → Type 0
  AreMore nothing = ⊥
  AreMore (last w) = IsAt 0 w
  AreMore (more w comma ws) = IsAt 0 w × AreMore ws

-- the program is of the grammar
abbrev pub IsProgram : Program → Type 0
IsProgram (main w) = IsAt 0 w
IsProgram (define head body rest) = IsAt 0 body × IsApart body (program_begins_in_bracket rest) × IsProgram rest

-- These tokens spell this program.
abbrev pub Spells : List Lexeme → Source → Type 0
Spells ts s = (p : Program) × IsProgram p × (program_tokens p ≡ ts) × (source p ≡ s)

-- These tokens begin a program.
abbrev pub Begins : List Lexeme → Type 0
Begins ts = (rest : List Lexeme) × (s : Source) × Spells (ts ++ rest) s

-- a definition as it is written
pub record Made : Type 0 where
  pub head : Head
  pub body : Writing

-- the tokens of definitions, which come with the last one first
abbrev pub made_tokens : List Made → List Lexeme
made_tokens [] = []
made_tokens (m ∷ ms) = made_tokens ms ++ (head_tokens m.head ++ tokens m.body)

-- a program behind definitions
abbrev pub behind_all : List Made → Program → Program
behind_all [] p = p
behind_all (m ∷ ms) p = behind_all ms (define m.head m.body p)

-- the tokens of a program's first definition, or of its main expression where it has none
abbrev pub first_part : Program → List Lexeme
first_part (main w) = tokens w
first_part (define head body rest) = head_tokens head ++ tokens body
