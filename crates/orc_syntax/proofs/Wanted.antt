-- What is wanted where tokens can't go on.
use Rattle.std.specs.Prelude.{if◌then◌else◌}
use Rattle.std.proofs.Common.{◌≡◌, ℕ, ◌+◌, Bool, true, false, leb, List, [], ◌∷◌, ◌++◌, Result, Ok, Err, refl, sym, ap, subst, ◌∙◌, arith}
use Rattle.std.proofs.lemmas.Bool.{le-leb}
use Rattle.orc_lex.specs.declared.token.Span.{Span}
use Rattle.orc_lex.specs.declared.token.Plain.TheVariants as plains
use Rattle.orc_lex.specs.declared.token.Joint.TheVariants as joints
use Rattle.orc_lex.specs.declared.token.What.TheVariants as wants
use Rattle.orc_lex.specs.declared.token.Side.{Side}
use Rattle.orc_lex.specs.declared.token.Side.TheVariants as sides
use Rattle.orc_lex.specs.declared.token.What.{What}
use Rattle.orc_lex.specs.Tokens.{Sort, Word, One, Join, Arrow, Open, Close, Comma, Assign, Def, Val, Lexeme, token}
use Rattle.orc_syntax.specs.Tree.{Label, Link, Seq, Par, Prune, Other, Item, item, Tree, Trees, Nil, Cons, count, post, posts, Source}
use Rattle.orc_syntax.specs.Tree as trees
use Rattle.orc_syntax.specs.Grammar.{span, left_level, link_by}
use Rattle.orc_syntax.specs.Machine.{Operand, operand as whole_operand, place, Bind, level_of, sort_by, Frame, Before, Bracket, Arguments, Bound, Body, Heading, ValWord, ValName, DefWord, DefName, Opened, Parameter, Separated, Closed, Mode, Want, First, Named, Have, Signed, Variable, Heads, Context, State, state, Reduced, reduced, reduce, takes_val, takes_def, behind, begin, push, called, close, another, defined, follow, go_on, variable_of, behind_name, first, bind, same_side, second, heading_wants, head, advance, step, then_run, run, Posted, whole, finish, start as initial}
use Rattle.orc_syntax.specs.Text.{CanFollow, IsWanted}
use Rattle.orc_syntax.proofs.Complete.{IsNoOpen, behind_variable}
use Rattle.orc_syntax.proofs.Running.{run_append}
use Rattle.orc_syntax.proofs.Laws.{viable, found, stuck_at}

abbrev failed : {A : Type 0} → What → Result A What
failed w = Err w

abbrev went : State → Result State What
went z = Ok z

same_what : (v w : What) → failed {A = State} v ≡ failed {A = State} w → w ≡ v
same_what v w e = cc

no_went : {A : Type 0} (z : State) (w : What) → went z ≡ failed {A = State} w → A
no_went z w e = absurd cc

wanted_else : (b : Bool) (z : State) (v w : What) → (if b then Ok z else Err v) ≡ failed {A = State} w → w ≡ v
wanted_else true z v w e = no_went z w e
wanted_else false z v w e = same_what v w e

-- what the machine takes can follow
can : (ts : List Lexeme) (z : State) (sort : Sort) (y : State) (at : Span) → run ts initial ≡ Ok z → step z (token sort at) ≡ Ok y → CanFollow ts sort
can ts z sort y at ran e = (at, viable (ts ++ token sort at ∷ []) y (run_append ts (token sort at ∷ []) initial z ran ∙ ap (then_run (run []) at.start) e))

-- what it refuses can't
cannot : (ts : List Lexeme) (z : State) (sort : Sort) → run ts initial ≡ Ok z → ((at : Span) → (w : What) × (step z (token sort at) ≡ Err w)) → CanFollow ts sort → ⊥
cannot ts z sort ran h f = stuck_at ts z (token sort f.0) (h f.0).0 ran (h f.0).1 f.1

abbrev somewhere : Span
somewhere = record { start = 0; end = 0 }

abbrev signal : Sort
signal = One plains.Signal

begin_wants : (sort : Sort) (at : Span) (d : Context) (ns : List Item) (k : List Frame) (what : What) → begin sort at d ns k ≡ Err what → what ≡ wants.Expression
begin_wants (One p) at d ns k what e = no_went _ what e
begin_wants (Word x) at d ns k what e = no_went _ what e
begin_wants Open at d ns k what e = no_went _ what e
begin_wants Val at d ns k what e = wanted_else (takes_val k) _ wants.Expression what e
begin_wants Def at d ns k what e = wanted_else (takes_def k) _ wants.Expression what e
begin_wants (Join j) at d ns k what e = same_what wants.Expression what e
begin_wants (Arrow s) at d ns k what e = same_what wants.Expression what e
begin_wants Close at d ns k what e = same_what wants.Expression what e
begin_wants Comma at d ns k what e = same_what wants.Expression what e
begin_wants Assign at d ns k what e = same_what wants.Expression what e

close_first_wants : (at : Span) (d : Context) (ns : List Item) (k : List Frame) (what : What) → first Close at d ns k ≡ Err what → what ≡ wants.Expression
close_first_wants at d ns [] what e = same_what wants.Expression what e
close_first_wants at d ns (Before j start ∷ k) what e = same_what wants.Expression what e
close_first_wants at d ns (Bracket start ∷ k) what e = same_what wants.Expression what e
close_first_wants at d ns (Arguments x n ∷ k) what e = no_went _ what e
close_first_wants at d ns (Bound x start ∷ k) what e = same_what wants.Expression what e
close_first_wants at d ns (Body f ∷ k) what e = same_what wants.Expression what e

first_wants : (sort : Sort) (at : Span) (d : Context) (ns : List Item) (k : List Frame) (what : What) → first sort at d ns k ≡ Err what → what ≡ wants.Expression
first_wants Close at d ns k what e = close_first_wants at d ns k what e
first_wants (Word y) at d ns k what e = begin_wants (Word y) at d ns k what e
first_wants (One p) at d ns k what e = begin_wants (One p) at d ns k what e
first_wants (Join j) at d ns k what e = begin_wants (Join j) at d ns k what e
first_wants (Arrow s') at d ns k what e = begin_wants (Arrow s') at d ns k what e
first_wants Open at d ns k what e = begin_wants Open at d ns k what e
first_wants Comma at d ns k what e = begin_wants Comma at d ns k what e
first_wants Assign at d ns k what e = begin_wants Assign at d ns k what e
first_wants Def at d ns k what e = begin_wants Def at d ns k what e
first_wants Val at d ns k what e = begin_wants Val at d ns k what e

-- no operator or `val` waits on top
abbrev IsBareStack : List Frame → Type 0
IsBareStack (Before j start ∷ k) = ⊥
IsBareStack _ = Unit {0}

-- what is left when all that can be is joined
record Stripped (o : Operand) (ns : List Item) (k : List Frame) : Type 0 where
  o' : Operand
  ns' : List Item
  k' : List Frame
  gives : reduce 0 o ns k ≡ reduced o' ns' k'
  bare : IsBareStack k'
  same : behind k' ≡ behind k

stripped : (o : Operand) (ns : List Item) (k : List Frame) → Stripped o ns k
stripped o ns [] = record { o' = o; ns' = ns; k' = []; gives = refl; bare = tt; same = refl }
stripped o ns (Before j start ∷ k) =
    let r = stripped (whole_operand start o.end) (ns ++ item (sort_by j) (span start o.end) ∷ []) k in
    let test : leb 0 (level_of j) ≡ true = le-leb _ _ (omega arith) in
    record { o' = r.o'; ns' = r.ns'; k' = r.k'; gives = rw test r.gives; bare = r.bare; same = r.same }
stripped o ns (Bracket start ∷ k) = record { o' = o; ns' = ns; k' = Bracket start ∷ k; gives = refl; bare = tt; same = refl }
stripped o ns (Arguments x n ∷ k) = record { o' = o; ns' = ns; k' = Arguments x n ∷ k; gives = refl; bare = tt; same = refl }
stripped o ns (Bound x start ∷ k) = record { o' = o; ns' = ns; k' = Bound x start ∷ k; gives = refl; bare = tt; same = refl }
stripped o ns (Body f ∷ k) = record { o' = o; ns' = ns; k' = Body f ∷ k; gives = refl; bare = tt; same = refl }

close_wants : (end : ℕ) (d : Context) (ns : List Item) (k : List Frame) (what : What) → IsBareStack k → close end d ns k ≡ Err what → what ≡ behind k
close_wants end d ns [] what bare e = same_what _ what e
close_wants end d ns (Before j start ∷ k) what bare e = absurd bare
close_wants end d ns (Bracket start ∷ k) what bare e = no_went _ what e
close_wants end d ns (Arguments x n ∷ k) what bare e = no_went _ what e
close_wants end d ns (Bound x start ∷ k) what bare e = same_what _ what e
close_wants end d ns (Body f ∷ k) what bare e = same_what _ what e

another_wants : (d : Context) (ns : List Item) (k : List Frame) (what : What) → IsBareStack k → another d ns k ≡ Err what → what ≡ behind k
another_wants d ns [] what bare e = same_what _ what e
another_wants d ns (Before j start ∷ k) what bare e = absurd bare
another_wants d ns (Bracket start ∷ k) what bare e = same_what _ what e
another_wants d ns (Arguments x n ∷ k) what bare e = no_went _ what e
another_wants d ns (Bound x start ∷ k) what bare e = same_what _ what e
another_wants d ns (Body f ∷ k) what bare e = same_what _ what e

-- behind a G or body an expression can begin
follow_wants : (v : What) (sort : Sort) (at : Span) (d : Context) (ns : List Item) (k : List Frame) (what : What) → v ≡ behind k → follow v sort at d ns k ≡ Err what → what ≡ behind k
follow_wants v sort at d ns [] what h e = same_what v what e ∙ h
follow_wants v sort at d ns (Before j start ∷ k) what h e = same_what v what e ∙ h
follow_wants v sort at d ns (Bracket start ∷ k) what h e = same_what v what e ∙ h
follow_wants v sort at d ns (Arguments x n ∷ k) what h e = same_what v what e ∙ h
follow_wants v sort at d ns (Bound x start ∷ k) what h e = begin_wants sort at d ns (Before (Bind x) start ∷ k) what e
follow_wants v sort at d ns (Body f ∷ k) what h e = begin_wants sort at (defined f ns d) [] k what e

-- a closing bracket, a comma and the beginning of an expression behind an operand
closing : (o : Operand) (at : Span) (d : Context) (ns : List Item) (k : List Frame) (r : Stripped o ns k) → go_on o Close at d ns k ≡ close at.end d r.ns' r.k'
closing o at d ns k r = ap (λ (q : Reduced). close at.end d q.nodes q.frames) r.gives

separating : (o : Operand) (at : Span) (d : Context) (ns : List Item) (k : List Frame) (r : Stripped o ns k) → go_on o Comma at d ns k ≡ another d r.ns' r.k'
separating o at d ns k r = ap (λ (q : Reduced). another d q.nodes q.frames) r.gives

abbrev following : Sort → Span → Context → Operand → List Item → List Frame → Result State What
following sort at d o ns k = let r = reduce 0 o ns k in follow (behind k) sort at d r.nodes r.frames

beginning : (sort : Sort) (o : Operand) (at : Span) (d : Context) (ns : List Item) (k : List Frame) (r : Stripped o ns k) → following sort at d o ns k ≡ follow (behind k) sort at d r.ns' r.k'
beginning sort o at d ns k r = ap (λ (q : Reduced). follow (behind k) sort at d q.nodes q.frames) r.gives

following_wants : (sort : Sort) (o : Operand) (at : Span) (d : Context) (ns : List Item) (k : List Frame) (what : What) → following sort at d o ns k ≡ Err what → what ≡ behind k
following_wants sort o at d ns k what e =
    let r = stripped o ns k in
    follow_wants (behind k) sort at d r.ns' r.k' what (sym r.same) (sym (beginning sort o at d ns k r) ∙ e) ∙ r.same

go_on_wants : (o : Operand) (sort : Sort) (at : Span) (d : Context) (ns : List Item) (k : List Frame) (what : What) → go_on o sort at d ns k ≡ Err what → what ≡ behind k
go_on_wants o (Join j) at d ns k what e = no_went _ what e
go_on_wants o (Arrow s) at d ns k what e = no_went _ what e
go_on_wants o Assign at d ns k what e = same_what _ what e
go_on_wants o Close at d ns k what e = let r = stripped o ns k in close_wants at.end d r.ns' r.k' what r.bare (sym (closing o at d ns k r) ∙ e) ∙ r.same
go_on_wants o Comma at d ns k what e = let r = stripped o ns k in another_wants d r.ns' r.k' what r.bare (sym (separating o at d ns k r) ∙ e) ∙ r.same
go_on_wants o (Word x) at d ns k what e = following_wants (Word x) o at d ns k what e
go_on_wants o (One p) at d ns k what e = following_wants (One p) o at d ns k what e
go_on_wants o Open at d ns k what e = following_wants Open o at d ns k what e
go_on_wants o Def at d ns k what e = following_wants Def o at d ns k what e
go_on_wants o Val at d ns k what e = following_wants Val o at d ns k what e

-- what is behind an operand goes by these steps
abbrev GoesBy : State → Operand → Context → List Item → List Frame → Type 0
GoesBy z o d ns k = ((sort : Sort) (at : Span) → IsNoOpen sort → step z (token sort at) ≡ go_on o sort at d ns k) × (finish z ≡ whole d (reduce 0 o ns k))

wants_behind : (ts : List Lexeme) (z : State) (o : Operand) (d : Context) (ns : List Item) (k : List Frame) (r : Stripped o ns k) (k' : List Frame) → r.k' ≡ k' → IsBareStack k' → run ts initial ≡ Ok z → GoesBy z o d ns k → IsWanted (behind k') ts
wants_behind ts z o d ns k r (Before j start ∷ k') same bare ran by = absurd bare
wants_behind ts z o d ns k r [] same bare ran by =
    let stuck : (at : Span) → step z (token signal at) ≡ Err (behind k) = λ at. by.0 signal at tt ∙ beginning signal o at d ns k r ∙ ap (λ (q : List Frame). follow (behind k) signal at d r.ns' q) same in
    let f = found ts z (record { definitions = d.definitions; main = r.ns' }) ran (by.1 ∙ ap (whole d) r.gives ∙ ap (λ (q : List Frame). whole d (reduced r.o' r.ns' q)) same) in
    ((f.s, f.spells), cannot ts z signal ran (λ at. (behind k, stuck at)))
wants_behind ts z o d ns k r (Bracket b ∷ k') same bare ran by =
    let stuck : (at : Span) → step z (token signal at) ≡ Err (behind k) = λ at. by.0 signal at tt ∙ beginning signal o at d ns k r ∙ ap (λ (q : List Frame). follow (behind k) signal at d r.ns' q) same in
    let named : (at : Span) → step z (token (Word []) at) ≡ Err (behind k) = λ at. by.0 (Word []) at tt ∙ beginning (Word []) o at d ns k r ∙ ap (λ (q : List Frame). follow (behind k) (Word []) at d r.ns' q) same in
    let comma : (at : Span) → step z (token Comma at) ≡ Err wants.Close = λ at. by.0 Comma at tt ∙ separating o at d ns k r ∙ ap (another d r.ns') same in
    let goes : step z (token Close somewhere) ≡ Ok (state (Have (whole_operand b 0)) d r.ns' k') = by.0 Close somewhere tt ∙ closing o somewhere d ns k r ∙ ap (close 0 d r.ns') same in
    (can ts z Close _ somewhere ran goes, cannot ts z Comma ran (λ at. (wants.Close, comma at)), cannot ts z signal ran (λ at. (behind k, stuck at)), cannot ts z (Word []) ran (λ at. (behind k, named at)))
wants_behind ts z o d ns k r (Arguments x n ∷ k') same bare ran by =
    let stuck : (at : Span) → step z (token signal at) ≡ Err (behind k) = λ at. by.0 signal at tt ∙ beginning signal o at d ns k r ∙ ap (λ (q : List Frame). follow (behind k) signal at d r.ns' q) same in
    let comma : step z (token Comma somewhere) ≡ Ok (state Want d r.ns' (Arguments x (n + 1) ∷ k')) = by.0 Comma somewhere tt ∙ separating o somewhere d ns k r ∙ ap (another d r.ns') same in
    let goes : step z (token Close somewhere) ≡ Ok (called x (n + 1) 0 d r.ns' k') = by.0 Close somewhere tt ∙ closing o somewhere d ns k r ∙ ap (close 0 d r.ns') same in
    (can ts z Comma _ somewhere ran comma, can ts z Close _ somewhere ran goes, cannot ts z signal ran (λ at. (behind k, stuck at)))
wants_behind ts z o d ns k r (Bound x b ∷ k') same bare ran by =
    let goes : step z (token signal somewhere) ≡ Ok (state (Have (place somewhere)) d (r.ns' ++ item (trees.leaf plains.Signal) somewhere ∷ []) (Before (Bind x) b ∷ k')) =
    by.0 signal somewhere tt ∙ beginning signal o somewhere d ns k r ∙ ap (λ (q : List Frame). follow (behind k) signal somewhere d r.ns' q) same in
    can ts z signal _ somewhere ran goes
wants_behind ts z o d ns k r (Body f ∷ k') same bare ran by =
    let goes : step z (token signal somewhere) ≡ Ok (state (Have (place somewhere)) (defined f r.ns' d) (item (trees.leaf plains.Signal) somewhere ∷ []) k') =
    by.0 signal somewhere tt ∙ beginning signal o somewhere d ns k r ∙ ap (λ (q : List Frame). follow (behind k) signal somewhere d r.ns' q) same in
    can ts z signal _ somewhere ran goes

wanted_behind : (ts : List Lexeme) (z : State) (o : Operand) (d : Context) (ns : List Item) (k : List Frame) → run ts initial ≡ Ok z → GoesBy z o d ns k → IsWanted (behind k) ts
wanted_behind ts z o d ns k ran by =
    let r = stripped o ns k in
    subst (λ (w : What). IsWanted w ts) r.same (wants_behind ts z o d ns k r r.k' refl r.bare ran by)

have_goes : (o : Operand) (d : Context) (ns : List Item) (k : List Frame) → GoesBy (state (Have o) d ns k) o d ns k
unfolding step
have_goes o d ns k = (λ sort at h. refl, refl)

named_goes : (x : Label) (d : Context) (ns : List Item) (k : List Frame) → GoesBy (state (Named x) d ns k) (place x.span) d (ns ++ variable_of x ∷ []) k
unfolding step
named_goes x d ns k = (λ sort at h. behind_variable x sort at d ns k h, refl)

named_wants : (x : Label) (sort : Sort) (at : Span) (d : Context) (ns : List Item) (k : List Frame) (what : What) → behind_name x sort at d ns k ≡ Err what → what ≡ behind k
named_wants x Open at d ns k what e = no_went _ what e
named_wants x (Word y) at d ns k what e = go_on_wants (place x.span) (Word y) at d (ns ++ variable_of x ∷ []) k what e
named_wants x (One p) at d ns k what e = go_on_wants (place x.span) (One p) at d (ns ++ variable_of x ∷ []) k what e
named_wants x (Join j) at d ns k what e = go_on_wants (place x.span) (Join j) at d (ns ++ variable_of x ∷ []) k what e
named_wants x (Arrow s') at d ns k what e = go_on_wants (place x.span) (Arrow s') at d (ns ++ variable_of x ∷ []) k what e
named_wants x Close at d ns k what e = go_on_wants (place x.span) Close at d (ns ++ variable_of x ∷ []) k what e
named_wants x Comma at d ns k what e = go_on_wants (place x.span) Comma at d (ns ++ variable_of x ∷ []) k what e
named_wants x Assign at d ns k what e = go_on_wants (place x.span) Assign at d (ns ++ variable_of x ∷ []) k what e
named_wants x Def at d ns k what e = go_on_wants (place x.span) Def at d (ns ++ variable_of x ∷ []) k what e
named_wants x Val at d ns k what e = go_on_wants (place x.span) Val at d (ns ++ variable_of x ∷ []) k what e

bind_wants : (s : Side) (o : Operand) (sort : Sort) (at : Span) (d : Context) (ns : List Item) (k : List Frame) (what : What) → bind s o sort at d ns k ≡ Err what → what ≡ wants.Name
bind_wants s o (Word y) at d ns k what e = no_went _ what e
bind_wants s o (One p) at d ns k what e = same_what wants.Name what e
bind_wants s o (Join j) at d ns k what e = same_what wants.Name what e
bind_wants s o (Arrow s') at d ns k what e = same_what wants.Name what e
bind_wants s o Open at d ns k what e = same_what wants.Name what e
bind_wants s o Close at d ns k what e = same_what wants.Name what e
bind_wants s o Comma at d ns k what e = same_what wants.Name what e
bind_wants s o Assign at d ns k what e = same_what wants.Name what e
bind_wants s o Def at d ns k what e = same_what wants.Name what e
bind_wants s o Val at d ns k what e = same_what wants.Name what e

second_wants : (s : Side) (o : Operand) (x : Label) (sort : Sort) (d : Context) (ns : List Item) (k : List Frame) (what : What) → second s o x sort d ns k ≡ Err what → what ≡ wants.Arrow
second_wants s o x (Arrow t) d ns k what e = wanted_else (same_side s t) _ wants.Arrow what e
second_wants s o x (Word y) d ns k what e = same_what wants.Arrow what e
second_wants s o x (One p) d ns k what e = same_what wants.Arrow what e
second_wants s o x (Join j) d ns k what e = same_what wants.Arrow what e
second_wants s o x Open d ns k what e = same_what wants.Arrow what e
second_wants s o x Close d ns k what e = same_what wants.Arrow what e
second_wants s o x Comma d ns k what e = same_what wants.Arrow what e
second_wants s o x Assign d ns k what e = same_what wants.Arrow what e
second_wants s o x Def d ns k what e = same_what wants.Arrow what e
second_wants s o x Val d ns k what e = same_what wants.Arrow what e

head_wants : (h : Heading) (sort : Sort) (at : Span) (d : Context) (ns : List Item) (k : List Frame) (what : What) → head h sort at d ns k ≡ Err what → what ≡ heading_wants h
head_wants (ValWord b) (Word y) at d ns k what e = no_went _ what e
head_wants (ValWord b) (One p) at d ns k what e = same_what (heading_wants (ValWord b)) what e
head_wants (ValWord b) (Join j) at d ns k what e = same_what (heading_wants (ValWord b)) what e
head_wants (ValWord b) (Arrow s') at d ns k what e = same_what (heading_wants (ValWord b)) what e
head_wants (ValWord b) Open at d ns k what e = same_what (heading_wants (ValWord b)) what e
head_wants (ValWord b) Close at d ns k what e = same_what (heading_wants (ValWord b)) what e
head_wants (ValWord b) Comma at d ns k what e = same_what (heading_wants (ValWord b)) what e
head_wants (ValWord b) Assign at d ns k what e = same_what (heading_wants (ValWord b)) what e
head_wants (ValWord b) Def at d ns k what e = same_what (heading_wants (ValWord b)) what e
head_wants (ValWord b) Val at d ns k what e = same_what (heading_wants (ValWord b)) what e
head_wants (ValName b x) (Word y) at d ns k what e = same_what (heading_wants (ValName b x)) what e
head_wants (ValName b x) (One p) at d ns k what e = same_what (heading_wants (ValName b x)) what e
head_wants (ValName b x) (Join j) at d ns k what e = same_what (heading_wants (ValName b x)) what e
head_wants (ValName b x) (Arrow s') at d ns k what e = same_what (heading_wants (ValName b x)) what e
head_wants (ValName b x) Open at d ns k what e = same_what (heading_wants (ValName b x)) what e
head_wants (ValName b x) Close at d ns k what e = same_what (heading_wants (ValName b x)) what e
head_wants (ValName b x) Comma at d ns k what e = same_what (heading_wants (ValName b x)) what e
head_wants (ValName b x) Assign at d ns k what e = no_went _ what e
head_wants (ValName b x) Def at d ns k what e = same_what (heading_wants (ValName b x)) what e
head_wants (ValName b x) Val at d ns k what e = same_what (heading_wants (ValName b x)) what e
head_wants DefWord (Word y) at d ns k what e = no_went _ what e
head_wants DefWord (One p) at d ns k what e = same_what (heading_wants DefWord) what e
head_wants DefWord (Join j) at d ns k what e = same_what (heading_wants DefWord) what e
head_wants DefWord (Arrow s') at d ns k what e = same_what (heading_wants DefWord) what e
head_wants DefWord Open at d ns k what e = same_what (heading_wants DefWord) what e
head_wants DefWord Close at d ns k what e = same_what (heading_wants DefWord) what e
head_wants DefWord Comma at d ns k what e = same_what (heading_wants DefWord) what e
head_wants DefWord Assign at d ns k what e = same_what (heading_wants DefWord) what e
head_wants DefWord Def at d ns k what e = same_what (heading_wants DefWord) what e
head_wants DefWord Val at d ns k what e = same_what (heading_wants DefWord) what e
head_wants (DefName f) (Word y) at d ns k what e = same_what (heading_wants (DefName f)) what e
head_wants (DefName f) (One p) at d ns k what e = same_what (heading_wants (DefName f)) what e
head_wants (DefName f) (Join j) at d ns k what e = same_what (heading_wants (DefName f)) what e
head_wants (DefName f) (Arrow s') at d ns k what e = same_what (heading_wants (DefName f)) what e
head_wants (DefName f) Open at d ns k what e = no_went _ what e
head_wants (DefName f) Close at d ns k what e = same_what (heading_wants (DefName f)) what e
head_wants (DefName f) Comma at d ns k what e = same_what (heading_wants (DefName f)) what e
head_wants (DefName f) Assign at d ns k what e = same_what (heading_wants (DefName f)) what e
head_wants (DefName f) Def at d ns k what e = same_what (heading_wants (DefName f)) what e
head_wants (DefName f) Val at d ns k what e = same_what (heading_wants (DefName f)) what e
head_wants (Opened f) (Word y) at d ns k what e = no_went _ what e
head_wants (Opened f) (One p) at d ns k what e = same_what (heading_wants (Opened f)) what e
head_wants (Opened f) (Join j) at d ns k what e = same_what (heading_wants (Opened f)) what e
head_wants (Opened f) (Arrow s') at d ns k what e = same_what (heading_wants (Opened f)) what e
head_wants (Opened f) Open at d ns k what e = same_what (heading_wants (Opened f)) what e
head_wants (Opened f) Close at d ns k what e = no_went _ what e
head_wants (Opened f) Comma at d ns k what e = same_what (heading_wants (Opened f)) what e
head_wants (Opened f) Assign at d ns k what e = same_what (heading_wants (Opened f)) what e
head_wants (Opened f) Def at d ns k what e = same_what (heading_wants (Opened f)) what e
head_wants (Opened f) Val at d ns k what e = same_what (heading_wants (Opened f)) what e
head_wants (Parameter f) (Word y) at d ns k what e = same_what (heading_wants (Parameter f)) what e
head_wants (Parameter f) (One p) at d ns k what e = same_what (heading_wants (Parameter f)) what e
head_wants (Parameter f) (Join j) at d ns k what e = same_what (heading_wants (Parameter f)) what e
head_wants (Parameter f) (Arrow s') at d ns k what e = same_what (heading_wants (Parameter f)) what e
head_wants (Parameter f) Open at d ns k what e = same_what (heading_wants (Parameter f)) what e
head_wants (Parameter f) Close at d ns k what e = no_went _ what e
head_wants (Parameter f) Comma at d ns k what e = no_went _ what e
head_wants (Parameter f) Assign at d ns k what e = same_what (heading_wants (Parameter f)) what e
head_wants (Parameter f) Def at d ns k what e = same_what (heading_wants (Parameter f)) what e
head_wants (Parameter f) Val at d ns k what e = same_what (heading_wants (Parameter f)) what e
head_wants (Separated f) (Word y) at d ns k what e = no_went _ what e
head_wants (Separated f) (One p) at d ns k what e = same_what (heading_wants (Separated f)) what e
head_wants (Separated f) (Join j) at d ns k what e = same_what (heading_wants (Separated f)) what e
head_wants (Separated f) (Arrow s') at d ns k what e = same_what (heading_wants (Separated f)) what e
head_wants (Separated f) Open at d ns k what e = same_what (heading_wants (Separated f)) what e
head_wants (Separated f) Close at d ns k what e = same_what (heading_wants (Separated f)) what e
head_wants (Separated f) Comma at d ns k what e = same_what (heading_wants (Separated f)) what e
head_wants (Separated f) Assign at d ns k what e = same_what (heading_wants (Separated f)) what e
head_wants (Separated f) Def at d ns k what e = same_what (heading_wants (Separated f)) what e
head_wants (Separated f) Val at d ns k what e = same_what (heading_wants (Separated f)) what e
head_wants (Closed f) (Word y) at d ns k what e = same_what (heading_wants (Closed f)) what e
head_wants (Closed f) (One p) at d ns k what e = same_what (heading_wants (Closed f)) what e
head_wants (Closed f) (Join j) at d ns k what e = same_what (heading_wants (Closed f)) what e
head_wants (Closed f) (Arrow s') at d ns k what e = same_what (heading_wants (Closed f)) what e
head_wants (Closed f) Open at d ns k what e = same_what (heading_wants (Closed f)) what e
head_wants (Closed f) Close at d ns k what e = same_what (heading_wants (Closed f)) what e
head_wants (Closed f) Comma at d ns k what e = same_what (heading_wants (Closed f)) what e
head_wants (Closed f) Assign at d ns k what e = no_went _ what e
head_wants (Closed f) Def at d ns k what e = same_what (heading_wants (Closed f)) what e
head_wants (Closed f) Val at d ns k what e = same_what (heading_wants (Closed f)) what e

abbrev name_here : Label
name_here = record { text = []; span = somewhere }

same_side-refl : (s : Side) → same_side s s ≡ true
same_side-refl sides.Right = refl
same_side-refl sides.Left = refl

wanted_want : (ts : List Lexeme) (d : Context) (ns : List Item) (k : List Frame) → run ts initial ≡ Ok (state Want d ns k) → IsWanted wants.Expression ts
unfolding step
wanted_want ts d ns k ran = can ts (state Want d ns k) signal _ somewhere ran refl

wanted_first : (ts : List Lexeme) (d : Context) (ns : List Item) (k : List Frame) → run ts initial ≡ Ok (state First d ns k) → IsWanted wants.Expression ts
unfolding step
wanted_first ts d ns k ran = can ts (state First d ns k) signal _ somewhere ran refl

wanted_signed : (ts : List Lexeme) (s : Side) (o : Operand) (d : Context) (ns : List Item) (k : List Frame) → run ts initial ≡ Ok (state (Signed s o) d ns k) → IsWanted wants.Name ts
unfolding step
wanted_signed ts s o d ns k ran = (can ts (state (Signed s o) d ns k) (Word []) _ somewhere ran refl, cannot ts (state (Signed s o) d ns k) signal ran (λ at. (wants.Name, refl)))

wanted_variable : (ts : List Lexeme) (s : Side) (o : Operand) (x : Label) (d : Context) (ns : List Item) (k : List Frame) → run ts initial ≡ Ok (state (Variable s o x) d ns k) → IsWanted wants.Arrow ts
unfolding step
wanted_variable ts s o x d ns k ran =
    let z : State = state (Variable s o x) d ns k in
    let y : State = push (link_by s x) d (reduce (left_level (link_by s x)) o ns k) in
    let goes : step z (token (Arrow s) somewhere) ≡ Ok y = ap (λ (b : Bool). if b then went y else failed wants.Arrow) (same_side-refl s) in
    ((s, can ts z (Arrow s) y somewhere ran goes), cannot ts z (Join joints.Par) ran (λ at. (wants.Arrow, refl)))

wanted_head : (ts : List Lexeme) (h : Heading) (d : Context) (ns : List Item) (k : List Frame) → run ts initial ≡ Ok (state (Heads h) d ns k) → IsWanted (heading_wants h) ts
unfolding step
wanted_head ts (ValWord b) d ns k ran = (can ts (state (Heads (ValWord b)) d ns k) (Word []) _ somewhere ran refl, cannot ts (state (Heads (ValWord b)) d ns k) signal ran (λ at. (wants.Name, refl)))
wanted_head ts (ValName b x) d ns k ran = can ts (state (Heads (ValName b x)) d ns k) Assign _ somewhere ran refl
wanted_head ts DefWord d ns k ran = (can ts (state (Heads DefWord) d ns k) (Word []) _ somewhere ran refl, cannot ts (state (Heads DefWord) d ns k) signal ran (λ at. (wants.Name, refl)))
wanted_head ts (DefName f) d ns k ran = (can ts (state (Heads (DefName f)) d ns k) Open _ somewhere ran refl, cannot ts (state (Heads (DefName f)) d ns k) (Join joints.Par) ran (λ at. (wants.Paren, refl)), cannot ts (state (Heads (DefName f)) d ns k) signal ran (λ at. (wants.Paren, refl)))
wanted_head ts (Opened f) d ns k ran = (can ts (state (Heads (Opened f)) d ns k) (Word []) _ somewhere ran refl, cannot ts (state (Heads (Opened f)) d ns k) signal ran (λ at. (wants.Name, refl)))
wanted_head ts (Parameter f) d ns k ran = (can ts (state (Heads (Parameter f)) d ns k) Comma _ somewhere ran refl, can ts (state (Heads (Parameter f)) d ns k) Close _ somewhere ran refl, cannot ts (state (Heads (Parameter f)) d ns k) signal ran (λ at. (wants.CommaOrClose, refl)))
wanted_head ts (Separated f) d ns k ran = (can ts (state (Heads (Separated f)) d ns k) (Word []) _ somewhere ran refl, cannot ts (state (Heads (Separated f)) d ns k) signal ran (λ at. (wants.Name, refl)))
wanted_head ts (Closed f) d ns k ran = can ts (state (Heads (Closed f)) d ns k) Assign _ somewhere ran refl

wanted_as : (ts : List Lexeme) (v w : What) → w ≡ v → IsWanted v ts → IsWanted w ts
wanted_as ts v w e h = subst (λ (u : What). IsWanted u ts) (sym e) h

wanted_by : (m : Mode) (ts : List Lexeme) (d : Context) (ns : List Item) (k : List Frame) → run ts initial ≡ Ok (state m d ns k) → (sort : Sort) (at : Span) (what : What) → advance m sort at d ns k ≡ Err what → IsWanted what ts
wanted_by Want ts d ns k ran sort at what e = wanted_as ts _ what (begin_wants sort at d ns k what e) (wanted_want ts d ns k ran)
wanted_by First ts d ns k ran sort at what e = wanted_as ts _ what (first_wants sort at d ns k what e) (wanted_first ts d ns k ran)
wanted_by (Named x) ts d ns k ran sort at what e = wanted_as ts _ what (named_wants x sort at d ns k what e) (wanted_behind ts (state (Named x) d ns k) (place x.span) d (ns ++ variable_of x ∷ []) k ran (named_goes x d ns k))
wanted_by (Have o) ts d ns k ran sort at what e = wanted_as ts _ what (go_on_wants o sort at d ns k what e) (wanted_behind ts (state (Have o) d ns k) o d ns k ran (have_goes o d ns k))
wanted_by (Signed s o) ts d ns k ran sort at what e = wanted_as ts _ what (bind_wants s o sort at d ns k what e) (wanted_signed ts s o d ns k ran)
wanted_by (Variable s o x) ts d ns k ran sort at what e = wanted_as ts _ what (second_wants s o x sort d ns k what e) (wanted_variable ts s o x d ns k ran)
wanted_by (Heads h) ts d ns k ran sort at what e = wanted_as ts _ what (head_wants h sort at d ns k what e) (wanted_head ts h d ns k ran)

-- what is wanted in the place of a token
pub wanted_at : (ts : List Lexeme) (z : State) (t : Lexeme) (what : What) → run ts initial ≡ Ok z → step z t ≡ Err what → IsWanted what ts
unfolding step
wanted_at ts z t what ran e = wanted_by z.mode ts z.context z.nodes z.frames ran t.sort t.span what e

abbrev unfinished : What → Result Posted What
unfinished w = Err w

abbrev finished : Posted → Result Posted What
finished r = Ok r

same_unfinished : (v w : What) → unfinished v ≡ unfinished w → w ≡ v
same_unfinished v w e = cc

no_finished : {A : Type 0} (r : Posted) (w : What) → finished r ≡ unfinished w → A
no_finished r w e = absurd cc

whole_wants : (d : Context) (o : Operand) (ns : List Item) (k : List Frame) (what : What) → whole d (reduced o ns k) ≡ Err what → what ≡ behind k
whole_wants d o ns [] what e = no_finished _ what e
whole_wants d o ns (f ∷ k) what e = same_unfinished _ what e

end_wants : (d : Context) (o : Operand) (ns : List Item) (k : List Frame) (what : What) → whole d (reduce 0 o ns k) ≡ Err what → what ≡ behind k
end_wants d o ns k what e =
    let r = stripped o ns k in
    whole_wants d r.o' r.ns' r.k' what (sym (ap (whole d) r.gives) ∙ e) ∙ r.same

end_wanted : (m : Mode) (ts : List Lexeme) (d : Context) (ns : List Item) (k : List Frame) → run ts initial ≡ Ok (state m d ns k) → (what : What) → finish (state m d ns k) ≡ Err what → IsWanted what ts
end_wanted Want ts d ns k ran what e = wanted_as ts _ what (same_unfinished _ what e) (wanted_want ts d ns k ran)
end_wanted First ts d ns k ran what e = wanted_as ts _ what (same_unfinished _ what e) (wanted_first ts d ns k ran)
end_wanted (Named x) ts d ns k ran what e = wanted_as ts _ what (end_wants d (place x.span) (ns ++ variable_of x ∷ []) k what e) (wanted_behind ts (state (Named x) d ns k) (place x.span) d (ns ++ variable_of x ∷ []) k ran (named_goes x d ns k))
end_wanted (Have o) ts d ns k ran what e = wanted_as ts _ what (end_wants d o ns k what e) (wanted_behind ts (state (Have o) d ns k) o d ns k ran (have_goes o d ns k))
end_wanted (Signed s o) ts d ns k ran what e = wanted_as ts _ what (same_unfinished _ what e) (wanted_signed ts s o d ns k ran)
end_wanted (Variable s o x) ts d ns k ran what e = wanted_as ts _ what (same_unfinished _ what e) (wanted_variable ts s o x d ns k ran)
end_wanted (Heads h) ts d ns k ran what e = wanted_as ts _ what (same_unfinished _ what e) (wanted_head ts h d ns k ran)

-- what is wanted at the end
pub wanted_end : (ts : List Lexeme) (z : State) (what : What) → run ts initial ≡ Ok z → finish z ≡ Err what → IsWanted what ts
wanted_end ts z what ran e = end_wanted z.mode ts z.context z.nodes z.frames ran what e
