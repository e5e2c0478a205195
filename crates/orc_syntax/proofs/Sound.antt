-- What is read is written by the grammar, and what has been read so far begins a program of the grammar.
use Rattle.std.specs.Prelude.{◌&&◌}
use Rattle.std.proofs.Common.{◌≡◌, ℕ, ◌≤◌, Bool, true, false, leb, List, [], ◌∷◌, ◌++◌, length, refl, sym, ap, ◌∙◌, append_assoc, inl, inr, arith, lit≤}
use Rattle.std.proofs.lemmas.Bool.Decides.{leb_tells}
use Rattle.orc_lex.specs.declared.token.Span.{Span}
use Rattle.orc_lex.specs.declared.token.Side.{Side}
use Rattle.orc_lex.specs.Tokens.{Arrow, Open, Close, Comma, Assign, Def, Val, Lexeme, token}
use Rattle.orc_syntax.specs.Tree.{Label, Link, Seq, Par, Prune, Other, Item, item, Tree, Trees, Nil, Cons, count, post, posts}
use Rattle.orc_syntax.specs.Tree as trees
use Rattle.orc_syntax.specs.Grammar.{Sign, Writing, operation, binding, Parameter as Other_parameter, Parameters, given, Head, word, sign_tokens, link, tokens, parameter_tokens, head_tokens, start_of, end_of, span, tree, names_of, labels_of, level, left_level, right_level, ends_in_name, begins_in_bracket, IsApart, IsAt, Made, made_tokens}
use Rattle.orc_syntax.specs.Machine.{Op, Bind, Frame, Before, Bracket, Arguments, Bound, Body, Heading, ValWord, ValName, DefWord, DefName, Opened, Parameter, Separated, Closed, Mode, Want, First, Named, Have, Signed, Variable, Heads, Defined, State, state, reduced, reduce}
use Rattle.orc_syntax.proofs.Complete.{operand, Accepts, lower}
use Rattle.orc_syntax.proofs.Programs.{context_of, one_made}

-- an argument and the comma behind it
pub record Passed : Type 0 where
  pub w : Writing
  pub comma : Span

-- a frame, as it was written
pub data Crumb : Type 0 where
  before : (sign : Sign) → (l : Writing) → Crumb
  bracket : (o : Span) → Crumb
  arguments : (x : Label) → (o : Span) → (given : List Passed) → Crumb
  bound : (v : Span) → (x : Label) → (e : Span) → Crumb
  within : (v : Span) → (x : Label) → (e : Span) → (g : Writing) → Crumb
  body : (h : Head) → Crumb

-- part of a `val x =` or `def f(a, b) =`, as it was written
pub data Begun : Type 0 where
  val_word : (v : Span) → Begun
  val_name : (v : Span) → (x : Label) → Begun
  def_word : (d : Span) → Begun
  def_name : (d : Span) → (f : Label) → Begun
  def_open : (d : Span) → (f : Label) → (o : Span) → Begun
  def_item : (d : Span) → (f : Label) → (o : Span) → (a : Label) → (ps : List Other_parameter) → Begun
  def_comma : (d : Span) → (f : Label) → (o : Span) → (a : Label) → (ps : List Other_parameter) → (comma : Span) → Begun
  def_closed : (d : Span) → (f : Label) → (o : Span) → (ps : Parameters) → (c : Span) → Begun

-- what has just been read, as it was written
pub data Spot : Type 0 where
  want : Spot
  opened : Spot
  named : (x : Label) → Spot
  have : (w : Writing) → Spot
  signed : (s : Side) → (at : Span) → (w : Writing) → Spot
  variable : (s : Side) → (at : Span) → (w : Writing) → (x : Label) → Spot
  heads : (b : Begun) → Spot

abbrev pub made : List Made → List Defined
made [] = []
made (m ∷ ms) = made ms ++ one_made m.head m.body ∷ []

abbrev pub given_posts : List Passed → List Item
given_posts [] = []
given_posts (g ∷ gs) = post (tree g.w) ++ given_posts gs

abbrev pub given_tokens : List Passed → List Lexeme
given_tokens [] = []
given_tokens (g ∷ gs) = tokens g.w ++ (token Comma g.comma ∷ given_tokens gs)

abbrev pub frame : Crumb → Frame
frame (before sign l) = Before (Op (link sign)) (start_of l)
frame (bracket o) = Bracket o.start
frame (arguments x o gs) = Arguments x (length gs)
frame (bound v x e) = Bound x v.start
frame (within v x e g) = Before (Bind x) v.start
frame (body h) = Body h.name

abbrev pub frames : List Crumb → List Frame
frames [] = []
frames (c ∷ cs) = frame c ∷ frames cs

abbrev pub crumb_tokens : Crumb → List Lexeme
crumb_tokens (before sign l) = tokens l ++ sign_tokens sign
crumb_tokens (bracket o) = token Open o ∷ []
crumb_tokens (arguments x o gs) = word x ∷ token Open o ∷ given_tokens gs
crumb_tokens (bound v x e) = token Val v ∷ word x ∷ token Assign e ∷ []
crumb_tokens (within v x e g) = token Val v ∷ word x ∷ token Assign e ∷ tokens g
crumb_tokens (body h) = head_tokens h

abbrev pub spelled : List Made → List Crumb → List Lexeme
spelled ms [] = made_tokens ms
spelled ms (c ∷ cs) = spelled ms cs ++ crumb_tokens c

-- the nodes so far
abbrev pub held : List Crumb → List Item
held [] = []
held (before sign l ∷ cs) = held cs ++ post (tree l)
held (bracket o ∷ cs) = held cs
held (arguments x o gs ∷ cs) = held cs ++ given_posts gs
held (bound v x e ∷ cs) = held cs
held (within v x e g ∷ cs) = held cs ++ post (tree g)
held (body h ∷ cs) = held cs

-- the parameters of the definition that is read
abbrev pub params_of : List Crumb → List Label
params_of [] = []
params_of (before sign l ∷ cs) = params_of cs
params_of (bracket o ∷ cs) = params_of cs
params_of (arguments x o gs ∷ cs) = params_of cs
params_of (bound v x e ∷ cs) = params_of cs
params_of (within v x e g ∷ cs) = params_of cs
params_of (body h ∷ cs) = labels_of h.parameters

abbrev pub heading_of : Begun → Heading
heading_of (val_word v) = ValWord v.start
heading_of (val_name v x) = ValName v.start x
heading_of (def_word d) = DefWord
heading_of (def_name d f) = DefName f
heading_of (def_open d f o) = Opened f
heading_of (def_item d f o a ps) = Parameter f
heading_of (def_comma d f o a ps comma) = Separated f
heading_of (def_closed d f o ps c) = Closed f

abbrev pub begun_tokens : Begun → List Lexeme
begun_tokens (val_word v) = token Val v ∷ []
begun_tokens (val_name v x) = token Val v ∷ word x ∷ []
begun_tokens (def_word d) = token Def d ∷ []
begun_tokens (def_name d f) = token Def d ∷ word f ∷ []
begun_tokens (def_open d f o) = token Def d ∷ word f ∷ token Open o ∷ []
begun_tokens (def_item d f o a ps) = token Def d ∷ word f ∷ token Open o ∷ parameter_tokens (given a ps)
begun_tokens (def_comma d f o a ps comma) = token Def d ∷ word f ∷ token Open o ∷ (parameter_tokens (given a ps) ++ token Comma comma ∷ [])
begun_tokens (def_closed d f o ps c) = token Def d ∷ word f ∷ token Open o ∷ (parameter_tokens ps ++ token Close c ∷ [])

abbrev pub begun_params : Begun → List Crumb → List Label
begun_params (val_word v) cs = params_of cs
begun_params (val_name v x) cs = params_of cs
begun_params (def_word d) cs = []
begun_params (def_name d f) cs = []
begun_params (def_open d f o) cs = []
begun_params (def_item d f o a ps) cs = a ∷ names_of ps
begun_params (def_comma d f o a ps comma) cs = a ∷ names_of ps
begun_params (def_closed d f o ps c) cs = labels_of ps

abbrev pub mode_of : Spot → Mode
mode_of want = Want
mode_of opened = First
mode_of (named x) = Named x
mode_of (have w) = Have (operand w)
mode_of (signed s at w) = Signed s (operand w)
mode_of (variable s at w x) = Variable s (operand w) x
mode_of (heads b) = Heads (heading_of b)

abbrev pub spot_tokens : Spot → List Lexeme
spot_tokens want = []
spot_tokens opened = []
spot_tokens (named x) = word x ∷ []
spot_tokens (have w) = tokens w
spot_tokens (signed s at w) = tokens w ++ token (Arrow s) at ∷ []
spot_tokens (variable s at w x) = tokens w ++ (token (Arrow s) at ∷ word x ∷ [])
spot_tokens (heads b) = begun_tokens b

abbrev pub nodes_at : Spot → List Crumb → List Item
nodes_at want cs = held cs
nodes_at opened cs = held cs
nodes_at (named x) cs = held cs
nodes_at (have w) cs = held cs ++ post (tree w)
nodes_at (signed s at w) cs = held cs ++ post (tree w)
nodes_at (variable s at w x) cs = held cs ++ post (tree w)
nodes_at (heads b) cs = held cs

abbrev pub params_at : Spot → List Crumb → List Label
params_at want cs = params_of cs
params_at opened cs = params_of cs
params_at (named x) cs = params_of cs
params_at (have w) cs = params_of cs
params_at (signed s at w) cs = params_of cs
params_at (variable s at w x) cs = params_of cs
params_at (heads b) cs = begun_params b cs

abbrev pub state_of : List Made → Spot → List Crumb → State
state_of ms spot cs = state (mode_of spot) (context_of (made ms) (params_at spot cs)) (nodes_at spot cs) (frames cs)

-- Where what comes next begins in a bracket, no name stands before it.
abbrev pub Clear : List Made → List Crumb → Bool → Type 0
Clear [] [] b = Unit {0}
Clear (m ∷ ms) [] b = IsApart m.body b
Clear ms (before sign l ∷ cs) b = Unit {0}
Clear ms (bracket o ∷ cs) b = Unit {0}
Clear ms (arguments x o gs ∷ cs) b = Unit {0}
Clear ms (bound v x e ∷ cs) b = Unit {0}
Clear ms (within v x e g ∷ cs) b = IsApart g b
Clear ms (body h ∷ cs) b = Unit {0}

and_false : (b : Bool) → (b && false) ≡ false
and_false true = refl
and_false false = refl

pub clear_false : (ms : List Made) (cs : List Crumb) → Clear ms cs false
clear_false [] [] = tt
clear_false (m ∷ ms) [] = and_false (ends_in_name m.body)
clear_false ms (before sign l ∷ cs) = tt
clear_false ms (bracket o ∷ cs) = tt
clear_false ms (arguments x o gs ∷ cs) = tt
clear_false ms (bound v x e ∷ cs) = tt
clear_false ms (within v x e g ∷ cs) = and_false (ends_in_name g)
clear_false ms (body h ∷ cs) = tt

abbrev pub AreGiven : List Passed → Type 0
AreGiven [] = Unit {0}
AreGiven (g ∷ gs) = IsAt 0 g.w × AreGiven gs

abbrev pub AreMade : List Made → Type 0
AreMade [] = Unit {0}
AreMade (m ∷ ms) = IsAt 0 m.body × AreMade ms

abbrev pub IsNone : List Crumb → Type 0
IsNone [] = Unit {0}
IsNone (c ∷ cs) = ⊥

abbrev pub IsFine : List Made → List Crumb → Type 0
IsFine ms [] = Unit {0}
IsFine ms (before sign l ∷ cs) = IsAt (left_level (link sign)) l × Accepts (level (link sign)) (frames cs) × Clear ms cs (begins_in_bracket l) × IsFine ms cs
IsFine ms (bracket o ∷ cs) = Clear ms cs true × IsFine ms cs
IsFine ms (arguments x o gs ∷ cs) = AreGiven gs × IsFine ms cs
IsFine ms (bound v x e ∷ cs) = Accepts 0 (frames cs) × IsFine ms cs
IsFine ms (within v x e g ∷ cs) = IsAt 0 g × Accepts 0 (frames cs) × IsFine ms cs
IsFine ms (body h ∷ cs) = IsNone cs × IsFine ms cs

-- it may stand as any operand
abbrev pub IsAtom : Writing → Type 0
IsAtom w = (n : ℕ) → IsAt n w

abbrev pub IsFirst : List Crumb → Type 0
IsFirst [] = ⊥
IsFirst (before sign l ∷ cs) = ⊥
IsFirst (bracket o ∷ cs) = ⊥
IsFirst (arguments x o gs ∷ cs) = gs ≡ []
IsFirst (bound v x e ∷ cs) = ⊥
IsFirst (within v x e g ∷ cs) = ⊥
IsFirst (body h ∷ cs) = ⊥

abbrev pub IsBegun : Begun → List Crumb → Type 0
IsBegun (val_word v) cs = Accepts 0 (frames cs)
IsBegun (val_name v x) cs = Accepts 0 (frames cs)
IsBegun (def_word d) cs = IsNone cs
IsBegun (def_name d f) cs = IsNone cs
IsBegun (def_open d f o) cs = IsNone cs
IsBegun (def_item d f o a ps) cs = IsNone cs
IsBegun (def_comma d f o a ps comma) cs = IsNone cs
IsBegun (def_closed d f o ps c) cs = IsNone cs

abbrev pub IsSpot : List Made → Spot → List Crumb → Type 0
IsSpot ms want cs = Clear ms cs true
IsSpot ms opened cs = IsFirst cs
IsSpot ms (named x) cs = Unit {0}
IsSpot ms (have w) cs = IsAtom w × Clear ms cs (begins_in_bracket w) × (ends_in_name w ≡ false)
IsSpot ms (signed s at w) cs = IsAtom w × Clear ms cs (begins_in_bracket w)
IsSpot ms (variable s at w x) cs = IsAtom w × Clear ms cs (begins_in_bracket w)
IsSpot ms (heads b) cs = IsBegun b cs

-- what these tokens are, where they lead to this state
pub record Carries (ms : List Made) (ts : List Lexeme) (s : State) : Type 0 where
  pub spot : Spot
  pub crumbs : List Crumb
  pub whole : AreMade ms
  pub fine : IsFine ms crumbs
  pub stands : IsSpot ms spot crumbs
  pub is : s ≡ state_of ms spot crumbs
  pub text : ts ≡ spelled ms crumbs ++ spot_tokens spot

-- no operator or `val` waits on top
abbrev pub IsBare : List Crumb → Type 0
IsBare [] = Unit {0}
IsBare (before sign l ∷ cs) = ⊥
IsBare (bracket o ∷ cs) = Unit {0}
IsBare (arguments x o gs ∷ cs) = Unit {0}
IsBare (bound v x e ∷ cs) = Unit {0}
IsBare (within v x e g ∷ cs) = ⊥
IsBare (body h ∷ cs) = Unit {0}

-- what reducing joins
pub record Reduces (ms : List Made) (m : ℕ) (w : Writing) (cs : List Crumb) : Type 0 where
  pub w' : Writing
  pub rest : List Crumb
  pub gives : reduce m (operand w) (held cs ++ post (tree w)) (frames cs) ≡ reduced (operand w') (held rest ++ post (tree w')) (frames rest)
  pub text : spelled ms rest ++ tokens w' ≡ spelled ms cs ++ tokens w
  pub at_m : IsAt m w'
  pub fine : IsFine ms rest
  pub clear : Clear ms rest (begins_in_bracket w')
  pub ends : ends_in_name w' ≡ ends_in_name w
  pub params : params_of rest ≡ params_of cs
  pub fits : (l : Link) → m ≡ left_level l → Accepts (level l) (frames rest)
  pub bare : m ≡ 0 → IsBare rest

op_less-le : (a b : Link) → leb (left_level b) (level a) ≡ false → right_level a ≤ level b
op_less-le Other Other h = absurd cc
op_less-le Other (Prune y) h = lit≤ tt
op_less-le Other Par h = lit≤ tt
op_less-le Other (Seq y) h = lit≤ tt
op_less-le (Prune x) Other h = absurd cc
op_less-le (Prune x) (Prune y) h = absurd cc
op_less-le (Prune x) Par h = lit≤ tt
op_less-le (Prune x) (Seq y) h = lit≤ tt
op_less-le Par Other h = absurd cc
op_less-le Par (Prune y) h = absurd cc
op_less-le Par Par h = absurd cc
op_less-le Par (Seq y) h = lit≤ tt
op_less-le (Seq x) Other h = absurd cc
op_less-le (Seq x) (Prune y) h = absurd cc
op_less-le (Seq x) Par h = absurd cc
op_less-le (Seq x) (Seq y) h = lit≤ tt

-- what the frames ask of what stands over them
abbrev pub Asks : List Made → List Crumb → Writing → Type 0
Asks ms [] w = IsAt 0 w × Clear ms [] (begins_in_bracket w)
Asks ms (before sign l ∷ cs) w = IsAt (right_level (link sign)) w
Asks ms (bracket o ∷ cs) w = IsAt 0 w
Asks ms (arguments x o gs ∷ cs) w = IsAt 0 w
Asks ms (bound v x e ∷ cs) w = IsAt 0 w
Asks ms (within v x e g ∷ cs) w = IsAt 0 w × IsApart g (begins_in_bracket w)
Asks ms (body h ∷ cs) w = IsAt 0 w

pub asks_of : (ms : List Made) (cs : List Crumb) (w : Writing) (n : ℕ) → Accepts n (frames cs) → IsAt n w → Clear ms cs (begins_in_bracket w) → Asks ms cs w
asks_of ms [] w n a h clear = (lower w 0 n (omega arith) h, clear)
asks_of ms (before sign l ∷ cs) w n a h clear = lower w (right_level (link sign)) n a h
asks_of ms (bracket o ∷ cs) w n a h clear = lower w 0 n (omega arith) h
asks_of ms (arguments x o gs ∷ cs) w n a h clear = lower w 0 n (omega arith) h
asks_of ms (bound v x e ∷ cs) w n a h clear = lower w 0 n (omega arith) h
asks_of ms (within v x e g ∷ cs) w n a h clear = (lower w 0 n (omega arith) h, clear)
asks_of ms (body h ∷ cs) w n a k clear = lower w 0 n (omega arith) k

pub asks_atom : (ms : List Made) (cs : List Crumb) (w : Writing) → IsAtom w → Clear ms cs (begins_in_bracket w) → Asks ms cs w
asks_atom ms [] w h clear = (h 0, clear)
asks_atom ms (before sign l ∷ cs) w h clear = h (right_level (link sign))
asks_atom ms (bracket o ∷ cs) w h clear = h 0
asks_atom ms (arguments x o gs ∷ cs) w h clear = h 0
asks_atom ms (bound v x e ∷ cs) w h clear = h 0
asks_atom ms (within v x e g ∷ cs) w h clear = (h 0, clear)
asks_atom ms (body k ∷ cs) w h clear = h 0

-- nothing is joined here
stands_still : (ms : List Made) (m : ℕ) (w : Writing) (cs : List Crumb) → reduce m (operand w) (held cs ++ post (tree w)) (frames cs) ≡ reduced (operand w) (held cs ++ post (tree w)) (frames cs)
    → IsFine ms cs → Clear ms cs (begins_in_bracket w) → IsAt m w → ((l : Link) → m ≡ left_level l → Accepts (level l) (frames cs)) → (m ≡ 0 → IsBare cs) → Reduces ms m w cs
stands_still ms m w cs gives fine clear h fits bare = record { w' = w; rest = cs; gives = gives; text = refl; at_m = h; fine = fine; clear = clear; ends = refl; params = refl; fits = fits; bare = bare }

bind_fits : (x : Label) (l : Link) → 0 ≤ level l
bind_fits x l = omega arith

pub reduces : (ms : List Made) (m : ℕ) (cs : List Crumb) (w : Writing) → IsFine ms cs → Asks ms cs w → Clear ms cs (begins_in_bracket w) → IsAt m w → Reduces ms m w cs
reduces ms m [] w fine asks clear h = stands_still ms m w [] refl fine clear h (λ l e. tt) (λ e. tt)
reduces ms m (bracket o ∷ cs) w fine asks clear h = stands_still ms m w (bracket o ∷ cs) refl fine clear h (λ l e. tt) (λ e. tt)
reduces ms m (arguments x o gs ∷ cs) w fine asks clear h = stands_still ms m w (arguments x o gs ∷ cs) refl fine clear h (λ l e. tt) (λ e. tt)
reduces ms m (bound v x e ∷ cs) w fine asks clear h = stands_still ms m w (bound v x e ∷ cs) refl fine clear h (λ l e. tt) (λ e. tt)
reduces ms m (body k ∷ cs) w fine asks clear h = stands_still ms m w (body k ∷ cs) refl fine clear h (λ l e. tt) (λ e. tt)
reduces ms m (before sign l ∷ cs) w fine asks clear h =
    elim (leb_tells m (level (link sign))) [
      | inl met ↦
          let v : Writing = operation sign l w in
          let at_level : IsAt (level (link sign)) v = (omega arith, fine.0, asks) in
          let r = reduces ms m cs v fine.3 (asks_of ms cs v (level (link sign)) fine.1 at_level fine.2) fine.2 (met.1, fine.0, asks) in
          let same : spelled ms cs ++ tokens v ≡ (spelled ms cs ++ (tokens l ++ sign_tokens sign)) ++ tokens w = simp append_assoc in
          let nodes : ((held cs ++ post (tree l)) ++ post (tree w)) ++ item (trees.operation (link sign)) (span (start_of l) (end_of w)) ∷ [] ≡ held cs ++ post (tree v) = simp append_assoc in
          record { w' = r.w'; rest = r.rest; gives = rw met.0 (ap (λ (us : List Item). reduce m (operand v) us (frames cs)) nodes ∙ r.gives); text = r.text ∙ same; at_m = r.at_m; fine = r.fine; clear = r.clear; ends = r.ends; params = r.params; fits = r.fits; bare = r.bare }
      | inr unmet ↦
          let stops : reduce m (operand w) (held (before sign l ∷ cs) ++ post (tree w)) (frames (before sign l ∷ cs)) ≡ reduced (operand w) (held (before sign l ∷ cs) ++ post (tree w)) (frames (before sign l ∷ cs)) = rw unmet.0 refl in
          stands_still ms m w (before sign l ∷ cs) stops fine tt h (λ k e. op_less-le (link sign) k (ap (λ (i : ℕ). leb i (level (link sign))) (sym e) ∙ unmet.0)) (λ e. absurd (omega (arith, unmet.1, e)))
    ]
reduces ms m (within v x e g ∷ cs) w fine asks clear h =
    elim (leb_tells m 0) [
      | inl met ↦
          let u : Writing = binding v x e g w in
          let at_zero : IsAt 0 u = (omega arith, fine.0, asks.0, asks.1) in
          let r = reduces ms m cs u fine.2 (asks_of ms cs u 0 fine.1 at_zero (clear_false ms cs)) (clear_false ms cs) (met.1, fine.0, asks.0, asks.1) in
          let same : spelled ms cs ++ tokens u ≡ (spelled ms cs ++ (token Val v ∷ word x ∷ token Assign e ∷ tokens g)) ++ tokens w = simp append_assoc in
          let nodes : ((held cs ++ post (tree g)) ++ post (tree w)) ++ item (trees.val x) (span v.start (end_of w)) ∷ [] ≡ held cs ++ post (tree u) = simp append_assoc in
          record { w' = r.w'; rest = r.rest; gives = rw met.0 (ap (λ (us : List Item). reduce m (operand u) us (frames cs)) nodes ∙ r.gives); text = r.text ∙ same; at_m = r.at_m; fine = r.fine; clear = r.clear; ends = r.ends; params = r.params; fits = r.fits; bare = r.bare }
      | inr unmet ↦
          let stops : reduce m (operand w) (held (within v x e g ∷ cs) ++ post (tree w)) (frames (within v x e g ∷ cs)) ≡ reduced (operand w) (held (within v x e g ∷ cs) ++ post (tree w)) (frames (within v x e g ∷ cs)) = rw unmet.0 refl in
          stands_still ms m w (within v x e g ∷ cs) stops fine clear h (λ k eq. bind_fits x k) (λ eq. absurd (omega (arith, unmet.1, eq)))
    ]
