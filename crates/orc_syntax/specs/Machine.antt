-- Reading token by token: what has come so far, and what a token adds.
use Rattle.std.specs.Prelude.{ℕ, ◌+◌, List, [], ◌∷◌, ◌++◌, Result, Ok, Err, Bool, true, false, nat_le, if◌then◌else◌}
use Rattle.orc_lex.specs.declared.token.Span.{Span}
use Rattle.orc_lex.specs.declared.token.Side.{Side}
use Rattle.orc_lex.specs.declared.token.Side.TheVariants as sides
use Rattle.orc_lex.specs.declared.token.What.{What}
use Rattle.orc_lex.specs.declared.token.What.TheVariants as wants
use Rattle.orc_lex.specs.Tokens.{Sort, Word, One, Join, Arrow, Open, Close, Comma, Assign, Def, Val, Lexeme}
use Rattle.orc_syntax.specs.Tree as trees
use Rattle.orc_syntax.specs.Tree.{Label, Link, Item, item, leaf, variable, call, operation}
use Rattle.orc_syntax.specs.Grammar.{link_of, link_by, level, left_level, right_level, span}

-- where an expression that has been read begins and ends, brackets counted
pub record Operand : Type 0 where
  pub start : ℕ
  pub end : ℕ

abbrev pub operand : ℕ → ℕ → Operand
operand start end = record { start = start; end = end }

abbrev pub place : Span → Operand
place at = operand at.start at.end

-- what joins two expressions: an operator, or a `val`
pub data Joining : Type 0 where
  Op : (link : Link) → Joining
  Bind : (x : Label) → Joining

-- how tightly it binds; a `val` least
abbrev pub level_of : Joining → ℕ
level_of (Op l) = level l
level_of (Bind x) = 0

abbrev pub right_of : Joining → ℕ
right_of (Op l) = right_level l
right_of (Bind x) = 0

abbrev pub sort_by : Joining → trees.Sort
sort_by (Op l) = operation l
sort_by (Bind x) = trees.val x

-- what waits for an expression to end: a joining with the start of its left side, a bracket, a call with its arguments so far, the `val x =` of a G,
-- the `def f(a, b) =` of a body
pub data Frame : Type 0 where
  Before : (j : Joining) → (start : ℕ) → Frame
  Bracket : (start : ℕ) → Frame
  Arguments : (x : Label) → (count : ℕ) → Frame
  Bound : (x : Label) → (start : ℕ) → Frame
  Body : (f : Label) → Frame

-- how much of a `val x =` or `def f(a, b) =` has come
pub data Heading : Type 0 where
  ValWord : (start : ℕ) → Heading
  ValName : (start : ℕ) → (x : Label) → Heading
  DefWord : Heading
  DefName : (f : Label) → Heading
  Opened : (f : Label) → Heading
  Parameter : (f : Label) → Heading
  Separated : (f : Label) → Heading
  Closed : (f : Label) → Heading

-- what has just been read
pub data Mode : Type 0 where
  Want : Mode
  First : Mode
  Named : (x : Label) → Mode
  Have : (o : Operand) → Mode
  Signed : (s : Side) → (o : Operand) → Mode
  Variable : (s : Side) → (o : Operand) → (x : Label) → Mode
  Heads : (h : Heading) → Mode

-- a definition that has been read
pub record Defined : Type 0 where
  pub name : Label
  pub parameters : List Label
  pub body : List Item

-- the definitions so far, and the parameters of the one that is read
pub record Context : Type 0 where
  pub definitions : List Defined
  pub parameters : List Label

-- what has come: the nodes and frames are those of the body or main expression that is read, the innermost frame first
pub record State : Type 0 where
  pub mode : Mode
  pub context : Context
  pub nodes : List Item
  pub frames : List Frame

abbrev pub state : Mode → Context → List Item → List Frame → State
state mode c ns k = record { mode = mode; context = c; nodes = ns; frames = k }

-- what joining leaves: the last operand, the nodes, and the frames that still wait
pub record Reduced : Type 0 where
  pub operand : Operand
  pub nodes : List Item
  pub frames : List Frame

abbrev pub reduced : Operand → List Item → List Frame → Reduced
reduced o ns k = record { operand = o; nodes = ns; frames = k }

-- joins the operators on top of the frames that bind at least as tightly as m; the operand o is the right side of the topmost one
abbrev pub reduce : ℕ → Operand → List Item → List Frame → Reduced
reduce m o ns [] = reduced o ns []
reduce m o ns (Before j start ∷ k) =
    if nat_le m (level_of j) then reduce m (operand start o.end) (ns ++ item (sort_by j) (span start o.end) ∷ []) k
    else reduced o ns (Before j start ∷ k)
reduce m o ns (Bracket start ∷ k) = reduced o ns (Bracket start ∷ k)
reduce m o ns (Arguments x count ∷ k) = reduced o ns (Arguments x count ∷ k)
reduce m o ns (Bound x start ∷ k) = reduced o ns (Bound x start ∷ k)
reduce m o ns (Body f ∷ k) = reduced o ns (Body f ∷ k)

-- a `val` can begin over these frames
abbrev pub takes_val : List Frame → Bool
takes_val [] = true
takes_val (Before (Op l) start ∷ k) = false
takes_val (Before (Bind x) start ∷ k) = true
takes_val (Bracket start ∷ k) = true
takes_val (Arguments x count ∷ k) = true
takes_val (Bound x start ∷ k) = true
takes_val (Body f ∷ k) = true

-- a definition can begin: only if nothing waits
abbrev pub takes_def : List Frame → Bool
takes_def [] = true
takes_def (f ∷ k) = false

-- what is wanted behind a whole expression
abbrev pub behind : List Frame → What
behind [] = wants.End
behind (Before j start ∷ k) = behind k
behind (Bracket start ∷ k) = wants.Close
behind (Arguments x count ∷ k) = wants.CommaOrClose
behind (Bound x start ∷ k) = wants.Expression
behind (Body f ∷ k) = wants.Expression

-- an expression must begin, or a definition
abbrev pub begin : Sort → Span → Context → List Item → List Frame → Result State What
begin (One p) at c ns k = Ok (state (Have (place at)) c (ns ++ item (leaf p) at ∷ []) k)
begin (Word text) at c ns k = Ok (state (Named (record { text = text; span = at })) c ns k)
begin Open at c ns k = Ok (state Want c ns (Bracket at.start ∷ k))
begin Val at c ns k = if takes_val k then Ok (state (Heads (ValWord at.start)) c ns k) else Err wants.Expression
begin Def at c ns k = if takes_def k then Ok (state (Heads DefWord) c ns k) else Err wants.Expression
begin _ at c ns k = Err wants.Expression

-- an operator behind its left side
abbrev pub push : Link → Context → Reduced → State
push l c r = state Want c r.nodes (Before (Op l) r.operand.start ∷ r.frames)

-- a call with its closing bracket
abbrev pub called : Label → ℕ → ℕ → Context → List Item → List Frame → State
called x count end c ns k = state (Have (operand x.span.start end)) c (ns ++ item (call x count) (span x.span.start end) ∷ []) k

-- a bracket closes, behind an expression all of whose operators are joined
abbrev pub close : ℕ → Context → List Item → List Frame → Result State What
close end c ns [] = Err wants.End
close end c ns (Before j start ∷ k) = Err wants.End
close end c ns (Bracket start ∷ k) = Ok (state (Have (operand start end)) c ns k)
close end c ns (Arguments x count ∷ k) = Ok (called x (count + 1) end c ns k)
close end c ns (Bound x start ∷ k) = Err wants.Expression
close end c ns (Body f ∷ k) = Err wants.Expression

-- a comma, behind an expression all of whose operators are joined
abbrev pub another : Context → List Item → List Frame → Result State What
another c ns [] = Err wants.End
another c ns (Before j start ∷ k) = Err wants.End
another c ns (Bracket start ∷ k) = Err wants.Close
another c ns (Arguments x count ∷ k) = Ok (state Want c ns (Arguments x (count + 1) ∷ k))
another c ns (Bound x start ∷ k) = Err wants.Expression
another c ns (Body f ∷ k) = Err wants.Expression

-- the body of a definition is whole
abbrev pub defined : Label → List Item → Context → Context
defined f ns c = record { definitions = c.definitions ++ record { name = f; parameters = c.parameters; body = ns } ∷ []; parameters = [] }

-- behind a whole expression another one begins: that was the G of a `val`, or the body of a `def`
abbrev pub follow : What → Sort → Span → Context → List Item → List Frame → Result State What
follow what sort at c ns (Bound x start ∷ k) = begin sort at c ns (Before (Bind x) start ∷ k)
follow what sort at c ns (Body f ∷ k) = begin sort at (defined f ns c) [] k
follow what sort at c ns k = Err what

-- behind an operand
abbrev pub go_on : Operand → Sort → Span → Context → List Item → List Frame → Result State What
go_on o (Join j) at c ns k = Ok (push (link_of j) c (reduce (left_level (link_of j)) o ns k))
go_on o (Arrow s) at c ns k = Ok (state (Signed s o) c ns k)
go_on o Close at c ns k = let r = reduce 0 o ns k in close at.end c r.nodes r.frames
go_on o Comma at c ns k = let r = reduce 0 o ns k in another c r.nodes r.frames
go_on o Assign at c ns k = Err (behind k)
go_on o sort at c ns k = let r = reduce 0 o ns k in follow (behind k) sort at c r.nodes r.frames

-- the node of a name without a bracket
abbrev pub variable_of : Label → Item
variable_of x = item (variable x) x.span

-- behind a name: a bracket makes it a call
abbrev pub behind_name : Label → Sort → Span → Context → List Item → List Frame → Result State What
behind_name x Open at c ns k = Ok (state First c ns (Arguments x 0 ∷ k))
behind_name x sort at c ns k = go_on (place x.span) sort at c (ns ++ variable_of x ∷ []) k

-- the first argument, or none
abbrev pub first : Sort → Span → Context → List Item → List Frame → Result State What
first Close at c ns [] = Err wants.Expression
first Close at c ns (Before j start ∷ k) = Err wants.Expression
first Close at c ns (Bracket start ∷ k) = Err wants.Expression
first Close at c ns (Arguments x count ∷ k) = Ok (called x count at.end c ns k)
first Close at c ns (Bound x start ∷ k) = Err wants.Expression
first Close at c ns (Body f ∷ k) = Err wants.Expression
first sort at c ns k = begin sort at c ns k

-- the variable of an operator
abbrev pub bind : Side → Operand → Sort → Span → Context → List Item → List Frame → Result State What
bind s o (Word text) at c ns k = Ok (state (Variable s o (record { text = text; span = at })) c ns k)
bind s o _ at c ns k = Err wants.Name

abbrev pub same_side : Side → Side → Bool
same_side sides.Right sides.Right = true
same_side sides.Left sides.Left = true
same_side _ _ = false

-- the second sign of an operator
abbrev pub second : Side → Operand → Label → Sort → Context → List Item → List Frame → Result State What
second s o x (Arrow other) c ns k = if same_side s other then Ok (push (link_by s x) c (reduce (left_level (link_by s x)) o ns k)) else Err wants.Arrow
second s o x _ c ns k = Err wants.Arrow

-- what is wanted where a `val x =` or `def f(a, b) =` isn't whole
abbrev pub heading_wants : Heading → What
heading_wants (ValWord start) = wants.Name
heading_wants (ValName start x) = wants.Assign
heading_wants DefWord = wants.Name
heading_wants (DefName f) = wants.Paren
heading_wants (Opened f) = wants.Name
heading_wants (Parameter f) = wants.CommaOrClose
heading_wants (Separated f) = wants.Name
heading_wants (Closed f) = wants.Assign

-- one more parameter
abbrev pub with_parameter : Label → Context → Context
with_parameter x c = record { definitions = c.definitions; parameters = c.parameters ++ x ∷ [] }

-- one more token of a `val x =` or `def f(a, b) =`
abbrev pub head : Heading → Sort → Span → Context → List Item → List Frame → Result State What
head (ValWord start) (Word text) at c ns k = Ok (state (Heads (ValName start (record { text = text; span = at }))) c ns k)
head (ValWord start) _ at c ns k = Err wants.Name
head (ValName start x) Assign at c ns k = Ok (state Want c ns (Bound x start ∷ k))
head (ValName start x) _ at c ns k = Err wants.Assign
head DefWord (Word text) at c ns k = Ok (state (Heads (DefName (record { text = text; span = at }))) c ns k)
head DefWord _ at c ns k = Err wants.Name
head (DefName f) Open at c ns k = Ok (state (Heads (Opened f)) c ns k)
head (DefName f) _ at c ns k = Err wants.Paren
head (Opened f) (Word text) at c ns k = Ok (state (Heads (Parameter f)) (with_parameter (record { text = text; span = at }) c) ns k)
head (Opened f) Close at c ns k = Ok (state (Heads (Closed f)) c ns k)
head (Opened f) _ at c ns k = Err wants.Name
head (Parameter f) Comma at c ns k = Ok (state (Heads (Separated f)) c ns k)
head (Parameter f) Close at c ns k = Ok (state (Heads (Closed f)) c ns k)
head (Parameter f) _ at c ns k = Err wants.CommaOrClose
head (Separated f) (Word text) at c ns k = Ok (state (Heads (Parameter f)) (with_parameter (record { text = text; span = at }) c) ns k)
head (Separated f) _ at c ns k = Err wants.Name
head (Closed f) Assign at c ns k = Ok (state Want c ns (Body f ∷ k))
head (Closed f) _ at c ns k = Err wants.Assign

-- what one more token does, by what has just been read
abbrev pub advance : Mode → Sort → Span → Context → List Item → List Frame → Result State What
advance Want sort at c ns k = begin sort at c ns k
advance First sort at c ns k = first sort at c ns k
advance (Named x) sort at c ns k = behind_name x sort at c ns k
advance (Have o) sort at c ns k = go_on o sort at c ns k
advance (Signed s o) sort at c ns k = bind s o sort at c ns k
advance (Variable s o x) sort at c ns k = second s o x sort c ns k
advance (Heads h) sort at c ns k = head h sort at c ns k

-- what one more token makes of a state, or what was wanted in its place
unfoldable pub step : State → Lexeme → Result State What
step s t = advance s.mode t.sort t.span s.context s.nodes s.frames

-- what was wanted, and where
abbrev pub Refusal : Type 0
Refusal = ℕ × What

abbrev pub then_run : (State → Result State Refusal) → ℕ → Result State What → Result State Refusal
then_run go at (Ok s) = go s
then_run go at (Err what) = Err (at, what)

-- what these tokens make of a state, or the first one that is refused
abbrev pub run : List Lexeme → State → Result State Refusal
run [] s = Ok s
run (t ∷ ts) s = then_run (run ts) t.span.start (step s t)

-- a program that has been read
pub record Posted : Type 0 where
  pub definitions : List Defined
  pub main : List Item

-- the program, where nothing waits behind its last operand
abbrev pub whole : Context → Reduced → Result Posted What
whole c r = elim r.frames [
  | [] ↦ Ok (record { definitions = c.definitions; main = r.nodes })
  | f ∷ k ↦ Err (behind (f ∷ k))
]

-- the program of a text that ends here, or what was wanted
abbrev pub finish : State → Result Posted What
finish s = elim s.mode [
  | Want ↦ Err wants.Expression
  | First ↦ Err wants.Expression
  | Named x ↦ whole s.context (reduce 0 (place x.span) (s.nodes ++ variable_of x ∷ []) s.frames)
  | Have o ↦ whole s.context (reduce 0 o s.nodes s.frames)
  | Signed side o ↦ Err wants.Name
  | Variable side o x ↦ Err wants.Arrow
  | Heads h ↦ Err (heading_wants h)
]

-- nothing has come yet
abbrev pub start : State
start = state Want (record { definitions = []; parameters = [] }) [] []
