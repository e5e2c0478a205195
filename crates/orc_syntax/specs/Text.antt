-- What a text spells, and what is wrong with one that spells nothing.
use Rattle.std.specs.Prelude.{◌≡◌, ℕ, ◌<◌, ◌≤◌, List, [], ◌∷◌, ◌++◌, length, Result, Ok, Err, ◌⊎◌, nat_lt, if◌then◌else◌}
use Rattle.std.specs.Str.{IsUtf8, IsValidUpTo}
use Rattle.orc_lex.specs.declared.token.Unread.{Unread}
use Rattle.orc_lex.specs.declared.token.Unread.TheVariants as unread
use Rattle.orc_lex.specs.declared.token.What.{What}
use Rattle.orc_lex.specs.declared.token.What.TheVariants as wants
use Rattle.orc_lex.specs.declared.token.Plain.TheVariants as plains
use Rattle.orc_lex.specs.declared.token.Joint.TheVariants as joints
use Rattle.orc_lex.specs.declared.token.Side.{Side}
use Rattle.orc_lex.specs.declared.token.Span.{Span}
use Rattle.orc_lex.specs.Tokens.{Sort, Word, One, Join, Arrow, Open, Close, Comma, Assign, Lexeme, token}
use Rattle.orc_lex.specs.Lexing.{Cut, IsPiece, Bad}
use Rattle.orc_syntax.specs.declared.fault.SyntaxFault.{SyntaxFault}
use Rattle.orc_syntax.specs.declared.fault.SyntaxFault.TheVariants as faults
use Rattle.orc_syntax.specs.declared.tree.Ast.{Ast}
use Rattle.orc_rules.specs.declared.limits.TheConstants.{LONGEST_SOURCE}
use Rattle.orc_syntax.specs.Tree.{Source}
use Rattle.orc_syntax.specs.Grammar.{Program, IsProgram, Spells, Begins, Made, made_tokens, behind_all, first_part}
use Rattle.orc_syntax.specs.Deep.{counts, IsTooDeep}
use Rattle.orc_syntax.specs.Ast.{IsAst}

-- Its tokens spell the program.
abbrev pub SpellsTokens : List ℕ → Source → Type 0
SpellsTokens src s = (ts : List Lexeme) × Cut src ts (length src) × Spells ts s

-- The text spells the program: it isn't too long, it is UTF-8, and its tokens do.
abbrev pub SpellsText : List ℕ → Source → Type 0
SpellsText src s = (length src ≤ LONGEST_SOURCE) × IsUtf8 src × SpellsTokens src s

-- Up to this place the text is tokens that begin a program.
abbrev pub BeginsText : List ℕ → ℕ → Type 0
BeginsText src at = (ts : List Lexeme) × Cut src ts at × Begins ts

-- One more token of this sort can follow.
abbrev pub CanFollow : List Lexeme → Sort → Type 0
CanFollow front sort = (at : Span) × Begins (front ++ token sort at ∷ [])

-- What is wanted behind these tokens, by what can follow: an expression; a name and no other expression; nothing more, where a program is
-- whole; a comma; a closing bracket, but no comma; `=`; the bracket of a definition's parameters; the second sign of an operator with a variable.
abbrev pub IsWanted : What → List Lexeme → Type 0
IsWanted wants.Expression front = CanFollow front (One plains.Signal)
IsWanted wants.Name front = CanFollow front (Word []) × (CanFollow front (One plains.Signal) → ⊥)
IsWanted wants.End front = ((s : Source) × Spells front s) × (CanFollow front (One plains.Signal) → ⊥)
IsWanted wants.CommaOrClose front = CanFollow front Comma × CanFollow front Close × (CanFollow front (One plains.Signal) → ⊥)
IsWanted wants.Close front = CanFollow front Close × (CanFollow front Comma → ⊥) × (CanFollow front (One plains.Signal) → ⊥) × (CanFollow front (Word []) → ⊥)
IsWanted wants.Assign front = CanFollow front Assign
IsWanted wants.Paren front = CanFollow front Open × (CanFollow front (Join joints.Par) → ⊥) × (CanFollow front (One plains.Signal) → ⊥)
IsWanted wants.Arrow front = ((s : Side) × CanFollow front (Arrow s)) × (CanFollow front (Join joints.Par) → ⊥)

-- The tokens up to a place begin a program, and with the next one they don't.
pub record StopsAt (src : List ℕ) (at : ℕ) (what : What) : Type 0 where
  pub front : List Lexeme
  pub next : Lexeme
  pub end : ℕ
  pub cut : Cut src (front ++ next ∷ []) end
  pub is : at ≡ next.span.start
  pub begins : Begins front
  pub stuck : Begins (front ++ next ∷ []) → ⊥
  pub wanted : IsWanted what front

-- The tokens of the whole text begin a program, but the program isn't complete.
pub record StopsAtEnd (src : List ℕ) (at : ℕ) (what : What) : Type 0 where
  pub front : List Lexeme
  pub cut : Cut src front (length src)
  pub is : at ≡ length src
  pub begins : Begins front
  pub stuck : (s : Source) → Spells front s → ⊥
  pub wanted : IsWanted what front

-- Some program goes on with the next token, which is one too many brackets, `val`s or operators in its definition or main expression.
pub record IsDeepAt (src : List ℕ) (at : ℕ) : Type 0 where
  pub before : List Made
  pub program : Program
  pub front : List Lexeme
  pub next : Lexeme
  pub rest : List Lexeme
  pub end : ℕ
  pub grammar : IsProgram (behind_all before program)
  pub part : first_part program ≡ front ++ next ∷ rest
  pub cut : Cut src (made_tokens before ++ (front ++ next ∷ [])) end
  pub is : at ≡ next.span.start
  pub deep : IsTooDeep (counts front) next.sort

-- A place where no token can be read; up to it they can.
abbrev pub IsUnread : List ℕ → ℕ → Unread → Type 0
IsUnread src at why = ((ts : List Lexeme) × Cut src ts at) × IsPiece src at (Bad why)

-- what is wrong with a text
abbrev pub IsFault : List ℕ → SyntaxFault → Type 0
IsFault src faults.Memory = ⊥
IsFault src faults.Long = LONGEST_SOURCE < length src
IsFault src (faults.Encoding at) = IsValidUpTo src at × (IsUtf8 src → ⊥)
IsFault src (faults.Character at) = IsUnread src at unread.Character
IsFault src (faults.Number span) = IsUnread src span.start (unread.Number span.end)
IsFault src (faults.Expected at what) = StopsAt src at what ⊎ StopsAtEnd src at what
IsFault src (faults.Deep at) = IsDeepAt src at
IsFault src (faults.Comment at) = IsUnread src at unread.Comment

-- The fault is that a limit is passed.
abbrev pub IsLimit : SyntaxFault → Type 0
IsLimit faults.Long = Unit {0}
IsLimit (faults.Deep at) = Unit {0}
IsLimit _ = ⊥

-- Nothing is too deep in it.
abbrev pub IsShallow : List ℕ → Type 0
IsShallow src = (at : ℕ) → IsDeepAt src at → ⊥

abbrev pub IsShallowBefore : List ℕ → ℕ → Type 0
IsShallowBefore src at = (place : ℕ) → IsDeepAt src place → place < at → ⊥

-- where a fault stands; a text that is too long is refused before anything else
abbrev pub place : SyntaxFault → ℕ
place faults.Memory = 0
place faults.Long = 0
place (faults.Encoding at) = at
place (faults.Character at) = at
place (faults.Number span) = span.start
place (faults.Expected at what) = at
place (faults.Deep at) = at
place (faults.Comment at) = at

-- its number, S1 to S7; S6 comes first of all
abbrev pub number : SyntaxFault → ℕ
number faults.Memory = 0
number faults.Long = 0
number (faults.Encoding at) = 1
number (faults.Character at) = 2
number (faults.Number span) = 3
number (faults.Expected at what) = 4
number (faults.Deep at) = 5
number (faults.Comment at) = 7

-- It stands before the other, or at the same place and has no greater number.
abbrev pub IsNoLater : SyntaxFault → SyntaxFault → Type 0
IsNoLater f g = (place f < place g) ⊎ ((place f ≡ place g) × (number f ≤ number g))

-- why no token can be read at a place
abbrev pub fault_at : Unread → ℕ → SyntaxFault
fault_at unread.Character at = faults.Character at
fault_at (unread.Number end) at = faults.Number (record { start = at; end = end })
fault_at unread.Comment at = faults.Comment at

-- memory running out says nothing of the text
abbrev pub IfFault : Result Ast SyntaxFault → (SyntaxFault → Type 0) → Type 0
IfFault (Ok e) p = Unit {0}
IfFault (Err faults.Memory) p = Unit {0}
IfFault (Err f) p = p f

-- the answer is this program, or memory ran out
abbrev pub Answers : Result Ast SyntaxFault → Source → Type 0
Answers (Ok ast) s = IsAst ast s
Answers (Err faults.Memory) s = Unit {0}
Answers (Err f) s = ⊥

-- the first of what was read and a place where the bytes stop being UTF-8
abbrev pub first_of : Result Ast SyntaxFault → ℕ → SyntaxFault
first_of (Ok ast) at = faults.Encoding at
first_of (Err f) at = if nat_lt (place f) at then f else faults.Encoding at
