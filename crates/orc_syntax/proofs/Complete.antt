-- What is written by the grammar is read, with its nodes.
use Rattle.std.specs.Prelude.{◌&&◌}
use Rattle.std.proofs.Common.{◌≡◌, ℕ, suc, ◌+◌, ◌≤◌, Bool, true, false, leb, List, [], ◌∷◌, ◌++◌, Result, Ok, refl, sym, ap, ◌∙◌, append_assoc, arith, lit≤}
use Rattle.std.proofs.lemmas.Bool.{le-leb}
use Rattle.std.proofs.lemmas.List.{append-nil}
use Rattle.orc_lex.specs.declared.token.Span.{Span}
use Rattle.orc_lex.specs.declared.token.Plain.{Plain}
use Rattle.orc_lex.specs.declared.token.Side.{Side}
use Rattle.orc_lex.specs.declared.token.Side.TheVariants as sides
use Rattle.orc_lex.specs.declared.token.What.{What}
use Rattle.orc_lex.specs.Tokens.{Sort, Word, One, Join, Arrow, Open, Close, Comma, Assign, Def, Val, Lexeme, token}
use Rattle.orc_syntax.specs.Tree.{Label, Link, Seq, Par, Prune, Other, Item, item, Tree, Trees, Nil, Cons, count, post, posts}
use Rattle.orc_syntax.specs.Tree as trees
use Rattle.orc_syntax.specs.Grammar.{Sign, Single, Double, Writing, plain, name, call, brackets, operation, binding, Writings, nothing, last, more, word, sign_tokens, link_of, link_by, link, tokens, tokens_of_all, start_of, end_of, span, tree, trees_of, level, left_level, right_level, ends_in_name, begins_in_bracket, IsApart, IsAt, AreArguments, AreMore}
use Rattle.orc_syntax.specs.Machine.{Operand, operand as whole_operand, place, Joining, Op, Bind, level_of, right_of, Frame, Before, Bracket, Arguments, Bound, Body, Want, First, Named, Have, Signed, Context, State, state, Reduced, reduced, reduce, takes_val, behind, push, called, close, another, defined, follow, go_on, variable_of, behind_name, first, same_side, second, step, then_run, run}
use Rattle.orc_syntax.proofs.Running.{run_append, run_one}

-- what a written expression leaves as an operand
abbrev pub operand : Writing → Operand
operand w = whole_operand (start_of w) (end_of w)

-- its last operand, with the nodes so far and what waits for it
abbrev pub final : Writing → List Item → List Frame → Reduced
final (plain p at) ns k = reduced (operand (plain p at)) (ns ++ post (tree (plain p at))) k
final (name x) ns k = reduced (operand (name x)) (ns ++ post (tree (name x))) k
final (call x o ws c) ns k = reduced (operand (call x o ws c)) (ns ++ post (tree (call x o ws c))) k
final (brackets o w c) ns k = reduced (operand (brackets o w c)) (ns ++ post (tree w)) k
final (operation sign l r) ns k = final r (ns ++ post (tree l)) (Before (Op (link sign)) (start_of l) ∷ k)
final (binding v x e g f) ns k = final f (ns ++ post (tree g)) (Before (Bind x) v.start ∷ k)

-- the state behind it
abbrev pub after : Writing → Context → List Item → List Frame → State
after (plain p at) d ns k = state (Have (operand (plain p at))) d (ns ++ post (tree (plain p at))) k
after (name x) d ns k = state (Named x) d ns k
after (call x o ws c) d ns k = state (Have (operand (call x o ws c))) d (ns ++ post (tree (call x o ws c))) k
after (brackets o w c) d ns k = state (Have (operand (brackets o w c))) d (ns ++ post (tree w)) k
after (operation sign l r) d ns k = after r d (ns ++ post (tree l)) (Before (Op (link sign)) (start_of l) ∷ k)
after (binding v x e g f) d ns k = after f d (ns ++ post (tree g)) (Before (Bind x) v.start ∷ k)

op_right-le_left : (a b : Link) → right_level a ≤ level b → leb (left_level b) (level a) ≡ false
op_right-le_left Other Other h = absurd (omega arith)
op_right-le_left Other (Prune y) h = refl
op_right-le_left Other Par h = refl
op_right-le_left Other (Seq y) h = refl
op_right-le_left (Prune x) Other h = absurd (omega arith)
op_right-le_left (Prune x) (Prune y) h = absurd (omega arith)
op_right-le_left (Prune x) Par h = refl
op_right-le_left (Prune x) (Seq y) h = refl
op_right-le_left Par Other h = absurd (omega arith)
op_right-le_left Par (Prune y) h = absurd (omega arith)
op_right-le_left Par Par h = absurd (omega arith)
op_right-le_left Par (Seq y) h = refl
op_right-le_left (Seq x) Other h = absurd (omega arith)
op_right-le_left (Seq x) (Prune y) h = absurd (omega arith)
op_right-le_left (Seq x) Par h = absurd (omega arith)
op_right-le_left (Seq x) (Seq y) h = refl

right-le_left : (j : Joining) (b : Link) → right_of j ≤ level b → leb (left_level b) (level_of j) ≡ false
right-le_left (Op a) b h = op_right-le_left a b h
right-le_left (Bind x) Other h = refl
right-le_left (Bind x) (Prune y) h = refl
right-le_left (Bind x) Par h = refl
right-le_left (Bind x) (Seq y) h = refl

pub level-le_left : (a : Link) → level a ≤ left_level a
level-le_left Other = lit≤ tt
level-le_left (Prune x) = lit≤ tt
level-le_left Par = lit≤ tt
level-le_left (Seq x) = lit≤ tt

pub level-le_right : (a : Link) → level a ≤ right_level a
level-le_right Other = lit≤ tt
level-le_right (Prune x) = lit≤ tt
level-le_right Par = lit≤ tt
level-le_right (Seq x) = lit≤ tt

-- an expression at level n can stand over these frames
abbrev pub Accepts : ℕ → List Frame → Type 0
Accepts n [] = Unit {0}
Accepts n (Before j start ∷ k) = right_of j ≤ n
Accepts n (Bracket at ∷ k) = Unit {0}
Accepts n (Arguments x count ∷ k) = Unit {0}
Accepts n (Bound x start ∷ k) = Unit {0}
Accepts n (Body f ∷ k) = Unit {0}

pub Accepts-more : (m n : ℕ) (k : List Frame) → m ≤ n → Accepts m k → Accepts n k
Accepts-more m n [] h a = tt
Accepts-more m n (Before j start ∷ k) h a = omega arith
Accepts-more m n (Bracket at ∷ k) h a = tt
Accepts-more m n (Arguments x count ∷ k) h a = tt
Accepts-more m n (Bound x start ∷ k) h a = tt
Accepts-more m n (Body f ∷ k) h a = tt

no_operand : (l : Link) → right_level l ≤ 0 → ⊥
no_operand Other h = omega arith
no_operand (Prune x) h = omega arith
no_operand Par h = omega arith
no_operand (Seq x) h = omega arith

-- and the machine sees it
pub accepted : (k : List Frame) → Accepts 0 k → takes_val k ≡ true
accepted [] a = refl
accepted (Before (Op l) start ∷ k) a = absurd (no_operand l a)
accepted (Before (Bind x) start ∷ k) a = refl
accepted (Bracket at ∷ k) a = refl
accepted (Arguments x count ∷ k) a = refl
accepted (Bound x start ∷ k) a = refl
accepted (Body f ∷ k) a = refl

-- an operator leaves what binds less tightly
pub stays : (l : Link) (o : Operand) (ns : List Item) (k : List Frame) → Accepts (level l) k → reduce (left_level l) o ns k ≡ reduced o ns k
stays l o ns [] a = refl
stays l o ns (Before j start ∷ k) a = rw (right-le_left j l a) refl
stays l o ns (Bracket at ∷ k) a = refl
stays l o ns (Arguments x count ∷ k) a = refl
stays l o ns (Bound x start ∷ k) a = refl
stays l o ns (Body f ∷ k) a = refl

-- what binds more tightly fits in a looser place
pub lower : (w : Writing) (m n : ℕ) → m ≤ n → IsAt n w → IsAt m w
lower (plain p at) m n le h = tt
lower (name x) m n le h = tt
lower (call x o ws c) m n le h = h
lower (brackets o w c) m n le h = h
lower (operation sign l r) m n le h = (omega (arith, h.0), h.1, h.2)
lower (binding v x e g f) m n le h = (omega (arith, h.0), h.1, h.2, h.3)

-- joining what was written leaves its nodes
pub settles : (w : Writing) (m : ℕ) (ns : List Item) (k : List Frame) → IsAt m w → reduce m (final w ns k).operand (final w ns k).nodes (final w ns k).frames ≡ reduce m (operand w) (ns ++ post (tree w)) k
settles (plain p at) m ns k h = refl
settles (name x) m ns k h = refl
settles (call x o ws c) m ns k h = refl
settles (brackets o w c) m ns k h = refl
settles (operation sign l r) m ns k h =
    let up : IsAt m r = lower r m (right_level (link sign)) (omega (arith, h.0, level-le_right (link sign))) h.2 in
    let test : leb m (level (link sign)) ≡ true = le-leb _ _ h.0 in
    let node : Item = item (trees.operation (link sign)) (span (start_of l) (end_of r)) in
    let e : ((ns ++ post (tree l)) ++ post (tree r)) ++ node ∷ [] ≡ ns ++ (post (tree l) ++ (post (tree r) ++ node ∷ [])) = simp append_assoc in
    settles r m (ns ++ post (tree l)) (Before (Op (link sign)) (start_of l) ∷ k) up ∙ rw test refl ∙ ap (λ (us : List Item). reduce m (whole_operand (start_of l) (end_of r)) us k) e
settles (binding v x e g f) m ns k h =
    let up : IsAt m f = lower f m 0 h.0 h.2 in
    let test : leb m 0 ≡ true = le-leb _ _ h.0 in
    let node : Item = item (trees.val x) (span v.start (end_of f)) in
    let e : ((ns ++ post (tree g)) ++ post (tree f)) ++ node ∷ [] ≡ ns ++ (post (tree g) ++ (post (tree f) ++ node ∷ [])) = simp append_assoc in
    settles f m (ns ++ post (tree g)) (Before (Bind x) v.start ∷ k) up ∙ rw test refl ∙ ap (λ (us : List Item). reduce m (whole_operand v.start (end_of f)) us k) e

abbrev pub IsNoOpen : Sort → Type 0
IsNoOpen Open = ⊥
IsNoOpen _ = Unit {0}

pub behind_variable : (x : Label) (sort : Sort) (at : Span) (d : Context) (ns : List Item) (k : List Frame) → IsNoOpen sort → behind_name x sort at d ns k ≡ go_on (place x.span) sort at d (ns ++ variable_of x ∷ []) k
behind_variable x (Word text) at d ns k h = refl
behind_variable x (One p) at d ns k h = refl
behind_variable x (Join j) at d ns k h = refl
behind_variable x (Arrow s) at d ns k h = refl
behind_variable x Open at d ns k h = absurd h
behind_variable x Close at d ns k h = refl
behind_variable x Comma at d ns k h = refl
behind_variable x Assign at d ns k h = refl
behind_variable x Def at d ns k h = refl
behind_variable x Val at d ns k h = refl

-- one more token behind an operand
abbrev pub goes : Reduced → Sort → Span → Context → Result State What
goes r sort at d = go_on r.operand sort at d r.nodes r.frames

-- behind an expression, every token but a bracket meets its last operand
pub goes_on : (w : Writing) (d : Context) (ns : List Item) (k : List Frame) (sort : Sort) (at : Span) → IsNoOpen sort → step (after w d ns k) (token sort at) ≡ goes (final w ns k) sort at d
unfolding step
goes_on (plain p a) d ns k sort at h = refl
goes_on (name x) d ns k sort at h = behind_variable x sort at d ns k h
goes_on (call x o ws c) d ns k sort at h = refl
goes_on (brackets o w c) d ns k sort at h = refl
goes_on (operation sign l r) d ns k sort at h = goes_on r d (ns ++ post (tree l)) (Before (Op (link sign)) (start_of l) ∷ k) sort at h
goes_on (binding v x e g f) d ns k sort at h = goes_on f d (ns ++ post (tree g)) (Before (Bind x) v.start ∷ k) sort at h

same_side-refl : (s : Side) → same_side s s ≡ true
same_side-refl sides.Right = refl
same_side-refl sides.Left = refl

behind_sign : (s : Side) (first : Span) (x : Label) (second : Span) (d : Context) (f r : Reduced) → reduce (left_level (link_by s x)) f.operand f.nodes f.frames ≡ r
    → run (word x ∷ token (Arrow s) second ∷ []) (state (Signed s f.operand) d f.nodes f.frames) ≡ Ok (push (link_by s x) d r)
unfolding step
behind_sign s first x second d f r e = rw (same_side-refl s, e) refl

settled : (l : Writing) (op : Link) (ns : List Item) (k : List Frame) → IsAt (left_level op) l → Accepts (level op) k → reduce (left_level op) (final l ns k).operand (final l ns k).nodes (final l ns k).frames ≡ reduced (operand l) (ns ++ post (tree l)) k
settled l op ns k h a = settles l (left_level op) ns k h ∙ stays op (operand l) (ns ++ post (tree l)) k a

-- an operator behind its left side
signs : (sign : Sign) (l : Writing) (d : Context) (ns : List Item) (k : List Frame) → IsAt (left_level (link sign)) l → Accepts (level (link sign)) k
    → run (sign_tokens sign) (after l d ns k) ≡ Ok (state Want d (ns ++ post (tree l)) (Before (Op (link sign)) (start_of l) ∷ k))
signs (Single j at) l d ns k h a =
    run_one (token (Join j) at) [] _ _ (goes_on l d ns k (Join j) at tt ∙ ap (λ (r : Reduced). Ok (push (link_of j) d r)) (settled l (link_of j) ns k h a))
signs (Double s first x second) l d ns k h a =
    run_one (token (Arrow s) first) (word x ∷ token (Arrow s) second ∷ []) _ _ (goes_on l d ns k (Arrow s) first tt) ∙ behind_sign s first x second d (final l ns k) (reduced (operand l) (ns ++ post (tree l)) k) (settled l (link_by s x) ns k h a)

closes_bracket : (w : Writing) (at : ℕ) (c : Span) (d : Context) (ns : List Item) (k : List Frame) (rest : List Lexeme) → IsAt 0 w
    → run (token Close c ∷ rest) (after w d ns (Bracket at ∷ k)) ≡ run rest (state (Have (whole_operand at c.end)) d (ns ++ post (tree w)) k)
closes_bracket w at c d ns k rest h =
    run_one (token Close c) rest (after w d ns (Bracket at ∷ k)) (state (Have (whole_operand at c.end)) d (ns ++ post (tree w)) k)
    (goes_on w d ns (Bracket at ∷ k) Close c tt ∙ ap (λ (r : Reduced). close c.end d r.nodes r.frames) (settles w 0 ns (Bracket at ∷ k) h))

closes_call : (w : Writing) (x : Label) (n : ℕ) (c : Span) (d : Context) (ns : List Item) (k : List Frame) (rest : List Lexeme) → IsAt 0 w
    → run (token Close c ∷ rest) (after w d ns (Arguments x n ∷ k)) ≡ run rest (called x (n + 1) c.end d (ns ++ post (tree w)) k)
closes_call w x n c d ns k rest h =
    run_one (token Close c) rest (after w d ns (Arguments x n ∷ k)) (called x (n + 1) c.end d (ns ++ post (tree w)) k)
    (goes_on w d ns (Arguments x n ∷ k) Close c tt ∙ ap (λ (r : Reduced). close c.end d r.nodes r.frames) (settles w 0 ns (Arguments x n ∷ k) h))

next_argument : (w : Writing) (x : Label) (n : ℕ) (c : Span) (d : Context) (ns : List Item) (k : List Frame) (rest : List Lexeme) → IsAt 0 w
    → run (token Comma c ∷ rest) (after w d ns (Arguments x n ∷ k)) ≡ run rest (state Want d (ns ++ post (tree w)) (Arguments x (n + 1) ∷ k))
next_argument w x n c d ns k rest h =
    run_one (token Comma c) rest (after w d ns (Arguments x n ∷ k)) (state Want d (ns ++ post (tree w)) (Arguments x (n + 1) ∷ k))
    (goes_on w d ns (Arguments x n ∷ k) Comma c tt ∙ ap (λ (r : Reduced). another d r.nodes r.frames) (settles w 0 ns (Arguments x n ∷ k) h))

reads_plain : (p : Plain) (at : Span) (d : Context) (ns : List Item) (k : List Frame) → run (tokens (plain p at)) (state Want d ns k) ≡ Ok (after (plain p at) d ns k)
unfolding step
reads_plain p at d ns k = refl

reads_name : (x : Label) (d : Context) (ns : List Item) (k : List Frame) → run (tokens (name x)) (state Want d ns k) ≡ Ok (after (name x) d ns k)
unfolding step
reads_name x d ns k = refl

opens_bracket : (o : Span) (d : Context) (ns : List Item) (k : List Frame) (rest : List Lexeme) → run (token Open o ∷ rest) (state Want d ns k) ≡ run rest (state Want d ns (Bracket o.start ∷ k))
unfolding step
opens_bracket o d ns k rest = refl

opens_call : (x : Label) (o : Span) (d : Context) (ns : List Item) (k : List Frame) (rest : List Lexeme) → run (word x ∷ token Open o ∷ rest) (state Want d ns k) ≡ run rest (state First d ns (Arguments x 0 ∷ k))
unfolding step
opens_call x o d ns k rest = refl

no_arguments : (x : Label) (c : Span) (d : Context) (ns : List Item) (k : List Frame) → run (token Close c ∷ []) (state First d ns (Arguments x 0 ∷ k)) ≡ Ok (called x 0 c.end d ns k)
unfolding step
no_arguments x c d ns k = refl

val_head : (v : Span) (x : Label) (e : Span) (d : Context) (ns : List Item) (k : List Frame) (rest : List Lexeme) → takes_val k ≡ true
    → run (token Val v ∷ word x ∷ token Assign e ∷ rest) (state Want d ns k) ≡ run rest (state Want d ns (Bound x v.start ∷ k))
unfolding step
val_head v x e d ns k rest h = rw h refl

-- where an argument may be missing, an expression is read as elsewhere
first_is : (w : Writing) (rest : List Lexeme) (d : Context) (ns : List Item) (k : List Frame) → run (tokens w ++ rest) (state First d ns k) ≡ run (tokens w ++ rest) (state Want d ns k)
unfolding step
first_is (plain p at) rest d ns k = refl
first_is (name x) rest d ns k = refl
first_is (call x o ws c) rest d ns k = refl
first_is (brackets o w c) rest d ns k = refl
first_is (operation sign l r) rest d ns k =
    let e : (tokens l ++ (sign_tokens sign ++ tokens r)) ++ rest ≡ tokens l ++ ((sign_tokens sign ++ tokens r) ++ rest) = append_assoc (tokens l) _ rest in
    ap (λ (ts : List Lexeme). run ts (state First d ns k)) e ∙ first_is l ((sign_tokens sign ++ tokens r) ++ rest) d ns k ∙ ap (λ (ts : List Lexeme). run ts (state Want d ns k)) (sym e)
first_is (binding v x e g f) rest d ns k = refl

-- a `val x =` or `def f(..) =`
abbrev pub IsAwaiting : Frame → Type 0
IsAwaiting (Bound x start) = Unit {0}
IsAwaiting (Body f) = Unit {0}
IsAwaiting _ = ⊥

-- the state where what stands behind its G or BODY begins
abbrev pub turned : Frame → Context → List Item → List Frame → State
turned (Bound x start) d ns k = state Want d ns (Before (Bind x) start ∷ k)
turned (Body f) d ns k = state Want (defined f ns d) [] k
turned _ d ns k = state Want d ns k

pub follow_is : (fr : Frame) (what : What) (sort : Sort) (at : Span) (d : Context) (ns : List Item) (k : List Frame) → IsAwaiting fr → follow what sort at d ns (fr ∷ k) ≡ step (turned fr d ns k) (token sort at)
unfolding step
follow_is (Bound x start) what sort at d ns k h = refl
follow_is (Body f) what sort at d ns k h = refl
follow_is (Before j start) what sort at d ns k h = absurd h
follow_is (Bracket start) what sort at d ns k h = absurd h
follow_is (Arguments x count) what sort at d ns k h = absurd h

pub waits : (fr : Frame) (m : ℕ) (o : Operand) (ns : List Item) (k : List Frame) → IsAwaiting fr → reduce m o ns (fr ∷ k) ≡ reduced o ns (fr ∷ k)
waits (Bound x start) m o ns k h = refl
waits (Body f) m o ns k h = refl
waits (Before j start) m o ns k h = absurd h
waits (Bracket start) m o ns k h = absurd h
waits (Arguments x count) m o ns k h = absurd h

-- what can begin an expression or a definition
abbrev pub IsBeginning : Sort → Type 0
IsBeginning (Word text) = Unit {0}
IsBeginning (One p) = Unit {0}
IsBeginning Open = Unit {0}
IsBeginning Val = Unit {0}
IsBeginning Def = Unit {0}
IsBeginning _ = ⊥

pub turn : (o : Operand) (sort : Sort) (at : Span) (d : Context) (ns : List Item) (k : List Frame) → IsBeginning sort → go_on o sort at d ns k ≡ (let r = reduce 0 o ns k in follow (behind k) sort at d r.nodes r.frames)
turn o (Word text) at d ns k h = refl
turn o (One p) at d ns k h = refl
turn o Open at d ns k h = refl
turn o Val at d ns k h = refl
turn o Def at d ns k h = refl
turn o (Join j) at d ns k h = absurd h
turn o (Arrow s) at d ns k h = absurd h
turn o Close at d ns k h = absurd h
turn o Comma at d ns k h = absurd h
turn o Assign at d ns k h = absurd h

-- behind what doesn't end in a name a bracket is no call
pub goes_on_open : (w : Writing) (d : Context) (ns : List Item) (k : List Frame) (sort : Sort) (at : Span) → ends_in_name w ≡ false → step (after w d ns k) (token sort at) ≡ goes (final w ns k) sort at d
unfolding step
goes_on_open (plain p a) d ns k sort at h = refl
goes_on_open (name x) d ns k sort at h = absurd cc
goes_on_open (call x o ws c) d ns k sort at h = refl
goes_on_open (brackets o w c) d ns k sort at h = refl
goes_on_open (operation sign l r) d ns k sort at h = goes_on_open r d (ns ++ post (tree l)) (Before (Op (link sign)) (start_of l) ∷ k) sort at h
goes_on_open (binding v x e g f) d ns k sort at h = goes_on_open f d (ns ++ post (tree g)) (Before (Bind x) v.start ∷ k) sort at h

-- the token behind a whole G or BODY begins what follows it
pub begins_next : (g : Writing) (fr : Frame) (d : Context) (ns : List Item) (k : List Frame) (sort : Sort) (at : Span) (rest : List Lexeme) → IsAwaiting fr → IsAt 0 g → IsBeginning sort
    → step (after g d ns (fr ∷ k)) (token sort at) ≡ goes (final g ns (fr ∷ k)) sort at d
    → run (token sort at ∷ rest) (after g d ns (fr ∷ k)) ≡ run (token sort at ∷ rest) (turned fr d (ns ++ post (tree g)) k)
begins_next g fr d ns k sort at rest w h b on =
    let r : Reduced = final g ns (fr ∷ k) in
    let e : reduce 0 r.operand r.nodes r.frames ≡ reduced (operand g) (ns ++ post (tree g)) (fr ∷ k) = settles g 0 ns (fr ∷ k) h ∙ waits fr 0 (operand g) (ns ++ post (tree g)) k w in
    ap (then_run (run rest) at.start)
    (on ∙ turn r.operand sort at d r.nodes r.frames b ∙ ap (λ (q : Reduced). follow (behind r.frames) sort at d q.nodes q.frames) e ∙ follow_is fr (behind r.frames) sort at d (ns ++ post (tree g)) k w)

pub apart_open : (b : Bool) → (b && true) ≡ false → b ≡ false
apart_open true e = absurd cc
apart_open false e = refl

pub follows : (f g : Writing) (fr : Frame) (d : Context) (ns : List Item) (k : List Frame) (rest : List Lexeme) → IsAwaiting fr → IsAt 0 g → IsApart g (begins_in_bracket f)
    → run (tokens f ++ rest) (after g d ns (fr ∷ k)) ≡ run (tokens f ++ rest) (turned fr d (ns ++ post (tree g)) k)
follows (plain p at) g fr d ns k rest w h apart = begins_next g fr d ns k (One p) at rest w h tt (goes_on g d ns (fr ∷ k) (One p) at tt)
follows (name x) g fr d ns k rest w h apart = begins_next g fr d ns k (Word x.text) x.span rest w h tt (goes_on g d ns (fr ∷ k) (Word x.text) x.span tt)
follows (call x o ws c) g fr d ns k rest w h apart = begins_next g fr d ns k (Word x.text) x.span (token Open o ∷ ((tokens_of_all ws ++ token Close c ∷ []) ++ rest)) w h tt (goes_on g d ns (fr ∷ k) (Word x.text) x.span tt)
follows (brackets o v c) g fr d ns k rest w h apart = begins_next g fr d ns k Open o ((tokens v ++ token Close c ∷ []) ++ rest) w h tt (goes_on_open g d ns (fr ∷ k) Open o (apart_open (ends_in_name g) apart))
follows (operation sign a b) g fr d ns k rest w h apart =
    let e : (tokens a ++ (sign_tokens sign ++ tokens b)) ++ rest ≡ tokens a ++ ((sign_tokens sign ++ tokens b) ++ rest) = append_assoc (tokens a) _ rest in
    ap (λ (ts : List Lexeme). run ts (after g d ns (fr ∷ k))) e ∙ follows a g fr d ns k ((sign_tokens sign ++ tokens b) ++ rest) w h apart
    ∙ ap (λ (ts : List Lexeme). run ts (turned fr d (ns ++ post (tree g)) k)) (sym e)
follows (binding v x e a b) g fr d ns k rest w h apart = begins_next g fr d ns k Val v (word x ∷ token Assign e ∷ ((tokens a ++ tokens b) ++ rest)) w h tt (goes_on g d ns (fr ∷ k) Val v tt)

count-suc : (n m : ℕ) → (n + 1) + m ≡ n + suc m
count-suc n m = omega arith

count-one : (n : ℕ) → n + 1 ≡ n + suc 0
count-one n = omega arith

one_more : (m : ℕ) → 1 + m ≡ suc m
one_more m = omega arith

mutual
  -- an expression is read over any frames that accept it
  pub complete : (w : Writing) (n : ℕ) (d : Context) (ns : List Item) (k : List Frame) → IsAt n w → Accepts n k → run (tokens w) (state Want d ns k) ≡ Ok (after w d ns k)
  complete (plain p at) n d ns k h a = reads_plain p at d ns k
  complete (name x) n d ns k h a = reads_name x d ns k
  complete (call x o ws c) n d ns k h a =
      opens_call x o d ns k (tokens_of_all ws ++ token Close c ∷ []) ∙ arguments x ws c d ns k h
      ∙ ap (λ (us : List Item). Ok (state (Have (operand (call x o ws c))) d us k)) (append_assoc ns (posts (trees_of ws)) _)
  complete (brackets o w c) n d ns k h a =
      opens_bracket o d ns k (tokens w ++ token Close c ∷ [])
      ∙ run_append (tokens w) (token Close c ∷ []) _ _ (complete w 0 d ns (Bracket o.start ∷ k) h tt)
      ∙ closes_bracket w o.start c d ns k [] h
  complete (operation sign l r) n d ns k h a =
      let b : Accepts (level (link sign)) k = Accepts-more n (level (link sign)) k h.0 a in
      let left = complete l (left_level (link sign)) d ns k h.1 (Accepts-more (level (link sign)) _ k (level-le_left (link sign)) b) in
      let right = complete r (right_level (link sign)) d (ns ++ post (tree l)) (Before (Op (link sign)) (start_of l) ∷ k) h.2 (omega arith) in
      run_append (tokens l) _ _ _ left ∙ run_append (sign_tokens sign) _ _ _ (signs sign l d ns k h.1 b) ∙ right
  complete (binding v x e g f) n d ns k h a =
      val_head v x e d ns k (tokens g ++ tokens f) (accepted k (Accepts-more n 0 k h.0 a))
      ∙ run_append (tokens g) (tokens f) _ _ (complete g 0 d ns (Bound x v.start ∷ k) h.1 tt)
      ∙ ap (λ (ts : List Lexeme). run ts (after g d ns (Bound x v.start ∷ k))) (sym (append-nil (tokens f)))
      ∙ follows f g (Bound x v.start) d ns k [] tt h.1 h.3
      ∙ ap (λ (ts : List Lexeme). run ts (state Want d (ns ++ post (tree g)) (Before (Bind x) v.start ∷ k))) (append-nil (tokens f))
      ∙ complete f 0 d (ns ++ post (tree g)) (Before (Bind x) v.start ∷ k) h.2 (omega arith)

  arguments : (x : Label) (ws : Writings) (c : Span) (d : Context) (ns : List Item) (k : List Frame) → AreArguments ws
      → run (tokens_of_all ws ++ token Close c ∷ []) (state First d ns (Arguments x 0 ∷ k)) ≡ Ok (called x (count (trees_of ws)) c.end d (ns ++ posts (trees_of ws)) k)
  arguments x nothing c d ns k h = no_arguments x c d ns k ∙ ap (λ (us : List Item). Ok (called x 0 c.end d us k)) (sym (append-nil ns))
  arguments x (last w) c d ns k h =
      first_is w (token Close c ∷ []) d ns (Arguments x 0 ∷ k)
      ∙ run_append (tokens w) (token Close c ∷ []) _ _ (complete w 0 d ns (Arguments x 0 ∷ k) h tt)
      ∙ closes_call w x 0 c d ns k [] h
      ∙ ap (λ (us : List Item). Ok (called x 1 c.end d (ns ++ us) k)) (sym (append-nil (post (tree w))))
  arguments x (more w comma ws) c d ns k h =
      let rest : List Lexeme = tokens_of_all ws ++ token Close c ∷ [] in
      let e : tokens_of_all (more w comma ws) ++ token Close c ∷ [] ≡ tokens w ++ (token Comma comma ∷ rest) = append_assoc (tokens w) _ _ in
      ap (λ (ts : List Lexeme). run ts (state First d ns (Arguments x 0 ∷ k))) e
      ∙ first_is w (token Comma comma ∷ rest) d ns (Arguments x 0 ∷ k)
      ∙ run_append (tokens w) (token Comma comma ∷ rest) _ _ (complete w 0 d ns (Arguments x 0 ∷ k) h.0 tt)
      ∙ next_argument w x 0 comma d ns k rest h.0
      ∙ others x 1 ws c d (ns ++ post (tree w)) k h.1
      ∙ ap (λ (m : ℕ). Ok (called x m c.end d ((ns ++ post (tree w)) ++ posts (trees_of ws)) k)) (one_more (count (trees_of ws)))
      ∙ ap (λ (us : List Item). Ok (called x (suc (count (trees_of ws))) c.end d us k)) (append_assoc ns (post (tree w)) (posts (trees_of ws)))

  others : (x : Label) (n : ℕ) (ws : Writings) (c : Span) (d : Context) (ns : List Item) (k : List Frame) → AreMore ws
      → run (tokens_of_all ws ++ token Close c ∷ []) (state Want d ns (Arguments x n ∷ k)) ≡ Ok (called x (n + count (trees_of ws)) c.end d (ns ++ posts (trees_of ws)) k)
  others x n nothing c d ns k h = absurd h
  others x n (last w) c d ns k h =
      run_append (tokens w) (token Close c ∷ []) _ _ (complete w 0 d ns (Arguments x n ∷ k) h tt)
      ∙ closes_call w x n c d ns k [] h
      ∙ ap (λ (m : ℕ). Ok (called x m c.end d (ns ++ post (tree w)) k)) (count-one n)
      ∙ ap (λ (us : List Item). Ok (called x (n + suc 0) c.end d (ns ++ us) k)) (sym (append-nil (post (tree w))))
  others x n (more w comma ws) c d ns k h =
      let rest : List Lexeme = tokens_of_all ws ++ token Close c ∷ [] in
      let e : tokens_of_all (more w comma ws) ++ token Close c ∷ [] ≡ tokens w ++ (token Comma comma ∷ rest) = append_assoc (tokens w) _ _ in
      ap (λ (ts : List Lexeme). run ts (state Want d ns (Arguments x n ∷ k))) e
      ∙ run_append (tokens w) (token Comma comma ∷ rest) _ _ (complete w 0 d ns (Arguments x n ∷ k) h.0 tt)
      ∙ next_argument w x n comma d ns k rest h.0
      ∙ others x (n + 1) ws c d (ns ++ post (tree w)) k h.1
      ∙ ap (λ (m : ℕ). Ok (called x m c.end d ((ns ++ post (tree w)) ++ posts (trees_of ws)) k)) (count-suc n (count (trees_of ws)))
      ∙ ap (λ (us : List Item). Ok (called x (n + suc (count (trees_of ws))) c.end d us k)) (append_assoc ns (post (tree w)) (posts (trees_of ws)))
