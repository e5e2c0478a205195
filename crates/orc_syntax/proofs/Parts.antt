-- Tokens are split into definitions in one way.
use Rattle.std.proofs.Common.{◌≡◌, ℕ, ◌+◌, ◌≤◌, Bool, true, false, List, [], ◌∷◌, ◌++◌, length, Result, Ok, Err, refl, sym, ap, ◌∙◌, append_assoc, inl, inr, arith}
use Rattle.std.proofs.lemmas.Bool.Decides.{leb_tells}
use Rattle.std.specs.Prelude.{if◌then◌else◌}
use Rattle.orc_lex.specs.declared.token.Span.{Span}
use Rattle.orc_lex.specs.declared.token.What.{What}
use Rattle.orc_lex.specs.Tokens.{Sort, Word, One, Join, Arrow, Open, Close, Comma, Assign, Def, Val, Lexeme, token}
use Rattle.orc_syntax.specs.Tree.{Item, post}
use Rattle.orc_syntax.specs.Grammar.{Writing, plain, name, call, brackets, operation, binding, Head, Program, main, define, word, sign_tokens, link, tokens, parameter_tokens, tokens_of_all, head_tokens, start_of, tree, labels_of, ends_in_name, begins_in_bracket, program_begins_in_bracket, IsApart, IsAt, IsProgram, Made, made_tokens, behind_all, first_part}
use Rattle.orc_syntax.specs.Machine.{Frame, Before, Op, Bind, Body, Want, Context, Defined, State, state, Reduced, reduced, reduce, takes_val, takes_def, behind, begin, follow, step, Refusal, then_run, run, start}
use Rattle.orc_syntax.proofs.Running.{then_ok, run_append}
use Rattle.orc_syntax.proofs.Complete.{operand, final, after, settles, goes, goes_on, goes_on_open, apart_open, IsAwaiting, turned, follow_is, waits, IsBeginning, turn, complete}
use Rattle.orc_syntax.proofs.Programs.{context_of, one_made, def_head}
use Rattle.orc_syntax.proofs.Sound.{made, Clear, clear_false, AreMade, Carries}
use Rattle.orc_syntax.proofs.Heads.{steps, carries}

-- the token behind a whole G or body begins what follows it
begins_step : (g : Writing) (fr : Frame) (d : Context) (ns : List Item) (k : List Frame) (sort : Sort) (at : Span) → IsAwaiting fr → IsAt 0 g → IsBeginning sort
    → step (after g d ns (fr ∷ k)) (token sort at) ≡ goes (final g ns (fr ∷ k)) sort at d
    → step (after g d ns (fr ∷ k)) (token sort at) ≡ step (turned fr d (ns ++ post (tree g)) k) (token sort at)
begins_step g fr d ns k sort at w h b on =
    let r : Reduced = final g ns (fr ∷ k) in
    let e : reduce 0 r.operand r.nodes r.frames ≡ reduced (operand g) (ns ++ post (tree g)) (fr ∷ k) = settles g 0 ns (fr ∷ k) h ∙ waits fr 0 (operand g) (ns ++ post (tree g)) k w in
    on ∙ turn r.operand sort at d r.nodes r.frames b ∙ ap (λ (q : Reduced). follow (behind r.frames) sort at d q.nodes q.frames) e ∙ follow_is fr (behind r.frames) sort at d (ns ++ post (tree g)) k w

abbrev first_of : Writing → Lexeme
first_of (plain p at) = token (One p) at
first_of (name x) = word x
first_of (call x o ws c) = word x
first_of (brackets o w c) = token Open o
first_of (operation sign l r) = first_of l
first_of (binding v x e g f) = token Val v

abbrev rest_of : Writing → List Lexeme
rest_of (plain p at) = []
rest_of (name x) = []
rest_of (call x o ws c) = token Open o ∷ (tokens_of_all ws ++ token Close c ∷ [])
rest_of (brackets o w c) = tokens w ++ token Close c ∷ []
rest_of (operation sign l r) = rest_of l ++ (sign_tokens sign ++ tokens r)
rest_of (binding v x e g f) = word x ∷ token Assign e ∷ (tokens g ++ tokens f)

first_rest : (w : Writing) → tokens w ≡ first_of w ∷ rest_of w
first_rest (plain p at) = refl
first_rest (name x) = refl
first_rest (call x o ws c) = refl
first_rest (brackets o w c) = refl
first_rest (operation sign l r) = ap (λ (us : List Lexeme). us ++ (sign_tokens sign ++ tokens r)) (first_rest l)
first_rest (binding v x e g f) = refl

step_follows : (f g : Writing) (fr : Frame) (d : Context) (ns : List Item) (k : List Frame) → IsAwaiting fr → IsAt 0 g → IsApart g (begins_in_bracket f)
    → step (after g d ns (fr ∷ k)) (first_of f) ≡ step (turned fr d (ns ++ post (tree g)) k) (first_of f)
step_follows (plain p at) g fr d ns k w h apart = begins_step g fr d ns k (One p) at w h tt (goes_on g d ns (fr ∷ k) (One p) at tt)
step_follows (name x) g fr d ns k w h apart = begins_step g fr d ns k (Word x.text) x.span w h tt (goes_on g d ns (fr ∷ k) (Word x.text) x.span tt)
step_follows (call x o ws c) g fr d ns k w h apart = begins_step g fr d ns k (Word x.text) x.span w h tt (goes_on g d ns (fr ∷ k) (Word x.text) x.span tt)
step_follows (brackets o v c) g fr d ns k w h apart = begins_step g fr d ns k Open o w h tt (goes_on_open g d ns (fr ∷ k) Open o (apart_open (ends_in_name g) apart))
step_follows (operation sign a b) g fr d ns k w h apart = step_follows a g fr d ns k w h apart
step_follows (binding v x e a b) g fr d ns k w h apart = begins_step g fr d ns k Val v w h tt (goes_on g d ns (fr ∷ k) Val v tt)

-- the first token of a program, and the rest of its first part
abbrev first_lexeme : Program → Lexeme
first_lexeme (main w) = first_of w
first_lexeme (define h b r) = token Def h.keyword

abbrev first_others : Program → List Lexeme
first_others (main w) = rest_of w
first_others (define h b r) = word h.name ∷ token Open h.opening ∷ ((parameter_tokens h.parameters ++ token Close h.closing ∷ token Assign h.equals ∷ []) ++ tokens b)

part_first : (q : Program) → first_part q ≡ first_lexeme q ∷ first_others q
part_first (main w) = first_rest w
part_first (define h b r) = refl

-- where the part behind definitions begins
abbrev fresh : List Made → State
fresh ms = state Want (context_of (made ms) []) [] []

-- the state behind the tokens of definitions
abbrev behind_made : List Made → State
behind_made [] = start
behind_made (m ∷ ms) = after m.body (context_of (made ms) (labels_of m.head.parameters)) [] (Body m.head.name ∷ [])

step_first : (ms : List Made) (q : Program) → AreMade ms → Clear ms [] (program_begins_in_bracket q) → step (behind_made ms) (first_lexeme q) ≡ step (fresh ms) (first_lexeme q)
step_first [] q whole clear = refl
step_first (m ∷ ms) (main w) whole clear = step_follows w m.body (Body m.head.name) (context_of (made ms) (labels_of m.head.parameters)) [] [] tt whole.0 clear
step_first (m ∷ ms) (define h b r) whole clear =
    let d : Context = context_of (made ms) (labels_of m.head.parameters) in
    begins_step m.body (Body m.head.name) d [] [] Def h.keyword tt whole.0 tt (goes_on m.body d [] (Body m.head.name ∷ []) Def h.keyword tt)

run_first : (ms : List Made) (q : Program) → AreMade ms → Clear ms [] (program_begins_in_bracket q) → run (first_part q) (behind_made ms) ≡ run (first_part q) (fresh ms)
run_first ms q whole clear =
    ap (λ (us : List Lexeme). run us (behind_made ms)) (part_first q)
    ∙ ap (then_run (run (first_others q)) (first_lexeme q).span.start) (step_first ms q whole clear)
    ∙ ap (λ (us : List Lexeme). run us (fresh ms)) (sym (part_first q))

define_part : (h : Head) (b : Writing) (ms : List Made) → IsAt 0 b → run (head_tokens h ++ tokens b) (fresh ms) ≡ Ok (after b (context_of (made ms) (labels_of h.parameters)) [] (Body h.name ∷ []))
define_part h b ms at = def_head h (made ms) [] (tokens b) ∙ complete b 0 (context_of (made ms) (labels_of h.parameters)) [] (Body h.name ∷ []) at tt

-- the tokens of definitions lead behind them
made_runs : (ms : List Made) → AreMade ms → run (made_tokens ms) start ≡ Ok (behind_made ms)
made_runs [] whole = refl
made_runs (m ∷ ms) whole =
    run_append (made_tokens ms) (head_tokens m.head ++ tokens m.body) _ _ (made_runs ms whole.1)
    ∙ run_first ms (define m.head m.body (main m.body)) whole.1 (clear_false ms [])
    ∙ define_part m.head m.body ms whole.0

after_context : (w : Writing) (d : Context) (ns : List Item) (k : List Frame) → (after w d ns k).context ≡ d
after_context (plain p at) d ns k = refl
after_context (name x) d ns k = refl
after_context (call x o ws c) d ns k = refl
after_context (brackets o w c) d ns k = refl
after_context (operation sign l r) d ns k = after_context r d (ns ++ post (tree l)) (Before (Op (link sign)) (start_of l) ∷ k)
after_context (binding v x e g f) d ns k = after_context f d (ns ++ post (tree g)) (Before (Bind x) v.start ∷ k)

-- how many definitions are whole
abbrev whole_ones : State → ℕ
whole_ones z = length z.context.definitions

-- a whole part leaves as many
record PartRuns (q : Program) (ms : List Made) : Type 0 where
  z : State
  runs : run (first_part q) (fresh ms) ≡ Ok z
  same : whole_ones z ≡ length (made ms)

part_runs : (q : Program) (ms : List Made) → IsProgram q → PartRuns q ms
part_runs (main w) ms h = record { z = after w (context_of (made ms) []) [] []; runs = complete w 0 (context_of (made ms) []) [] [] h tt; same = ap (λ (d : Context). length d.definitions) (after_context w (context_of (made ms) []) [] []) }
part_runs (define h b r) ms at = record {
  z = after b (context_of (made ms) (labels_of h.parameters)) [] (Body h.name ∷ []);
  runs = define_part h b ms at.0;
  same = ap (λ (d : Context). length d.definitions) (after_context b (context_of (made ms) (labels_of h.parameters)) [] (Body h.name ∷ []));
}

abbrev went : State → Result State What
went z = Ok z

went_is : (y z : State) → went y ≡ went z → z ≡ y
went_is y z e = cc

kept_if : (b : Bool) (y : State) (w : What) (z : State) → (if b then went y else Err w) ≡ went z → z ≡ y
kept_if true y w z e = went_is y z e
kept_if false y w z e = absurd cc

begin_keeps : (sort : Sort) (at : Span) (d : Context) (ns : List Item) (k : List Frame) (y : State) → begin sort at d ns k ≡ Ok y → whole_ones y ≡ length d.definitions
begin_keeps (One p) at d ns k y e = ap (λ (z : State). whole_ones z) (went_is _ y e)
begin_keeps (Word x) at d ns k y e = ap (λ (z : State). whole_ones z) (went_is _ y e)
begin_keeps Open at d ns k y e = ap (λ (z : State). whole_ones z) (went_is _ y e)
begin_keeps Val at d ns k y e = ap (λ (z : State). whole_ones z) (kept_if (takes_val k) _ _ y e)
begin_keeps Def at d ns k y e = ap (λ (z : State). whole_ones z) (kept_if (takes_def k) _ _ y e)
begin_keeps (Join j) at d ns k y e = absurd cc
begin_keeps (Arrow s) at d ns k y e = absurd cc
begin_keeps Close at d ns k y e = absurd cc
begin_keeps Comma at d ns k y e = absurd cc
begin_keeps Assign at d ns k y e = absurd cc

fresh_keeps : (ms : List Made) (t : Lexeme) (y : State) → step (fresh ms) t ≡ Ok y → whole_ones y ≡ length (made ms)
unfolding step
fresh_keeps ms t y e = begin_keeps t.sort t.span (context_of (made ms) []) [] [] y e

carried_ones : (ms : List Made) (ts : List Lexeme) (z : State) → Carries ms ts z → whole_ones z ≡ length (made ms)
carried_ones ms ts z c = ap (λ (s : State). whole_ones s) c.is

push_longer : (ds : List Defined) (d : Defined) → length (ds ++ d ∷ []) ≡ length ds + 1
push_longer [] d = omega arith
push_longer (e ∷ ds) d = omega (arith, push_longer ds d)

abbrev ran : State → Result State Refusal
ran z = Ok z

ran_is : (y z : State) → ran y ≡ ran z → y ≡ z
ran_is y z e = cc

-- definitions don't get fewer
grows_from : (us : List Lexeme) (ms : List Made) (ts : List Lexeme) (s y : State) → Carries ms ts s → run us s ≡ Ok y → length (made ms) ≤ whole_ones y
grows_from [] ms ts s y c e = omega (arith, carried_ones ms ts s c, ap (λ (z : State). whole_ones z) (ran_is s y e))
grows_from (t ∷ us) ms ts s y c e =
    let h = then_ok (run us) t.span.start (step s t) y e in
    elim (steps ms ts s c t h.0 h.1) [
      | inl k ↦ grows_from us ms (ts ++ t ∷ []) h.0 y k h.2
      | inr (m, f, k) ↦ omega (arith, grows_from us (m ∷ ms) (ts ++ t ∷ []) h.0 y k h.2, push_longer (made ms) (one_made m.head m.body))
    ]

grows : (ts us : List Lexeme) (s y : State) → run ts start ≡ Ok s → run us s ≡ Ok y → whole_ones s ≤ whole_ones y
grows ts us s y e h = let c = carries ts s e in omega (arith, carried_ones c.0 ts s c.1, grows_from us c.0 ts s y c.1 h)

run_split : (us vs : List Lexeme) (s z : State) → run (us ++ vs) s ≡ Ok z → (y : State) × (run us s ≡ Ok y) × (run vs y ≡ Ok z)
run_split [] vs s z e = (s, refl, e)
run_split (t ∷ us) vs s z e =
    let h = then_ok (run (us ++ vs)) t.span.start (step s t) z e in
    let r = run_split us vs h.0 z h.2 in
    (r.0, ap (then_run (run us) t.span.start) h.1 ∙ r.1, r.2)

-- tokens that end in a token of a part behind definitions
pub record Derived (ms : List Made) (all front : List Lexeme) (t : Lexeme) : Type 0 where
  pub q : Program
  pub rest : List Lexeme
  pub whole : AreMade ms
  pub clear : Clear ms [] (program_begins_in_bracket q)
  pub grammar : IsProgram q
  pub part : first_part q ≡ front ++ t ∷ rest
  pub text : all ≡ made_tokens ms ++ (front ++ t ∷ [])

unbehind : (ms : List Made) (q : Program) → IsProgram (behind_all ms q) → AreMade ms × Clear ms [] (program_begins_in_bracket q) × IsProgram q
unbehind [] q h = (tt, tt, h)
unbehind (m ∷ ms) q h = let r = unbehind ms (define m.head m.body q) h in ((r.2.0, r.0), r.2.1, r.2.2)

pub derived : (ms : List Made) (q : Program) (all front rest : List Lexeme) (t : Lexeme) → IsProgram (behind_all ms q) → first_part q ≡ front ++ t ∷ rest → all ≡ made_tokens ms ++ (front ++ t ∷ []) → Derived ms all front t
derived ms q all front rest t h part text = let u = unbehind ms q h in record { q = q; rest = rest; whole = u.0; clear = u.1; grammar = u.2; part = part; text = text }

head_is : {t u : Lexeme} {ts us : List Lexeme} → t ∷ ts ≡ u ∷ us → t ≡ u
head_is e = cc

tail_is : {t u : Lexeme} {ts us : List Lexeme} → t ∷ ts ≡ u ∷ us → ts ≡ us
tail_is e = cc

-- what the local tokens begin with
front_first : (front : List Lexeme) (t : Lexeme) (rest : List Lexeme) (a : Lexeme) (others : List Lexeme) → front ++ t ∷ rest ≡ a ∷ others → (xs : List Lexeme) × (front ++ t ∷ [] ≡ a ∷ xs)
front_first [] t rest a others e = ([], ap (λ (u : Lexeme). u ∷ []) (head_is e))
front_first (f ∷ front) t rest a others e = (front ++ t ∷ [], ap (λ (u : Lexeme). u ∷ (front ++ t ∷ [])) (head_is e))

local_first : (ms : List Made) (all front : List Lexeme) (t : Lexeme) (d : Derived ms all front t) → (xs : List Lexeme) × (front ++ t ∷ [] ≡ first_lexeme d.q ∷ xs)
local_first ms all front t d = front_first front t d.rest (first_lexeme d.q) (first_others d.q) (sym d.part ∙ part_first d.q)

-- one token behind the definitions all of them are whole
first_grows : (ms : List Made) (q : Program) (xs : List Lexeme) (z : State) → AreMade ms → Clear ms [] (program_begins_in_bracket q) → run (first_lexeme q ∷ xs) (behind_made ms) ≡ Ok z → length (made ms) ≤ whole_ones z
first_grows ms q xs z whole clear e =
    let h = then_ok (run xs) (first_lexeme q).span.start (step (behind_made ms) (first_lexeme q)) z e in
    let n : whole_ones h.0 ≡ length (made ms) = fresh_keeps ms (first_lexeme q) h.0 (sym (step_first ms q whole clear) ∙ h.1) in
    let reached : run (made_tokens ms ++ first_lexeme q ∷ []) start ≡ Ok h.0 = run_append (made_tokens ms) (first_lexeme q ∷ []) _ _ (made_runs ms whole) ∙ ap (then_run (run []) (first_lexeme q).span.start) h.1 in
    omega (arith, n, grows (made_tokens ms ++ first_lexeme q ∷ []) xs h.0 z reached h.2)

-- and no more before the part is over
derived_ones : (ms : List Made) (all front : List Lexeme) (t : Lexeme) (d : Derived ms all front t) (z : State) → run all start ≡ Ok z → whole_ones z ≡ length (made ms)
derived_ones ms all front t d z e =
    let f = local_first ms all front t d in
    let here : run (front ++ t ∷ []) (behind_made ms) ≡ Ok z = sym (run_append (made_tokens ms) (front ++ t ∷ []) _ _ (made_runs ms d.whole)) ∙ ap (λ (us : List Lexeme). run us start) (sym d.text) ∙ e in
    let low = first_grows ms d.q f.0 z d.whole d.clear (ap (λ (us : List Lexeme). run us (behind_made ms)) (sym f.1) ∙ here) in
    let p = part_runs d.q ms d.grammar in
    let over : run ((front ++ t ∷ []) ++ d.rest) (behind_made ms) ≡ Ok p.z = ap (λ (us : List Lexeme). run us (behind_made ms)) (append_assoc front (t ∷ []) d.rest ∙ sym d.part) ∙ run_first ms d.q d.whole d.clear ∙ p.runs in
    let s = run_split (front ++ t ∷ []) d.rest (behind_made ms) p.z over in
    let on : run d.rest z ≡ Ok p.z = ap (run d.rest) (ran_is z s.0 (sym here ∙ s.1)) ∙ s.2 in
    omega (arith, low, p.same, grows all d.rest z p.z e on)

behind_ones : (m : Made) (ms : List Made) → whole_ones (behind_made (m ∷ ms)) ≡ length (made ms)
behind_ones m ms = ap (λ (d : Context). length d.definitions) (after_context m.body (context_of (made ms) (labels_of m.head.parameters)) [] (Body m.head.name ∷ []))

-- of two fronts of one list the longer goes on from the shorter
longer : (xs ys us vs : List Lexeme) → xs ++ us ≡ ys ++ vs → length xs ≤ length ys → (ws : List Lexeme) × (ys ≡ xs ++ ws) × (us ≡ ws ++ vs)
longer [] ys us vs e le = (ys, refl, e)
longer (x ∷ xs) [] us vs e le = absurd (omega (arith, le))
longer (x ∷ xs) (y ∷ ys) us vs e le =
    let r = longer xs ys us vs (tail_is e) (omega (arith, le)) in
    (r.0, ap (λ (t : Lexeme). t ∷ ys) (sym (head_is e)) ∙ ap (λ (zs : List Lexeme). x ∷ zs) r.1, r.2)

no_end : (xs : List Lexeme) (t : Lexeme) (ys : List Lexeme) → [] ≡ xs ++ t ∷ ys → ⊥
no_end [] t ys e = absurd cc
no_end (x ∷ xs) t ys e = absurd cc

-- a token behind the shorter definitions isn't in the longer
too_few : (ms ns : List Made) (all front back : List Lexeme) (t u : Lexeme) (d : Derived ms all front t) (b : Derived ns all back u) (v : Lexeme) (vs : List Lexeme) → length (made ms) ≡ length (made ns)
    → made_tokens ns ≡ made_tokens ms ++ v ∷ vs → front ++ t ∷ [] ≡ (v ∷ vs) ++ (back ++ u ∷ []) → ⊥
too_few ms [] all front back t u d b v vs n e l = no_end (made_tokens ms) v vs e
too_few ms (m ∷ ns) all front back t u d b v vs n e l =
    let f = local_first ms all front t d in
    let same : v ≡ first_lexeme d.q = head_is (sym l ∙ f.1) in
    let reached : run (v ∷ vs) (behind_made ms) ≡ Ok (behind_made (m ∷ ns)) = sym (run_append (made_tokens ms) (v ∷ vs) _ _ (made_runs ms d.whole)) ∙ ap (λ (us : List Lexeme). run us start) (sym e) ∙ made_runs (m ∷ ns) b.whole in
    let low = first_grows ms d.q vs (behind_made (m ∷ ns)) d.whole d.clear (ap (λ (w : Lexeme). run (w ∷ vs) (behind_made ms)) (sym same) ∙ reached) in
    omega (arith, low, n, behind_ones m ns, push_longer (made ns) (one_made m.head m.body))

same_made : (ms ns : List Made) (all front back : List Lexeme) (t u : Lexeme) (d : Derived ms all front t) (b : Derived ns all back u) (ws : List Lexeme) → length (made ms) ≡ length (made ns)
    → made_tokens ns ≡ made_tokens ms ++ ws → front ++ t ∷ [] ≡ ws ++ (back ++ u ∷ []) → front ++ t ∷ [] ≡ back ++ u ∷ []
same_made ms ns all front back t u d b [] n e l = l
same_made ms ns all front back t u d b (v ∷ vs) n e l = absurd (too_few ms ns all front back t u d b v vs n e l)

-- Tokens of which one is in a part are split there in one way.
pub one_split : (ms ns : List Made) (all front back : List Lexeme) (t u : Lexeme) (d : Derived ms all front t) (b : Derived ns all back u) (z : State) → run all start ≡ Ok z → front ++ t ∷ [] ≡ back ++ u ∷ []
one_split ms ns all front back t u d b z e =
    let n : length (made ms) ≡ length (made ns) = sym (derived_ones ms all front t d z e) ∙ derived_ones ns all back u b z e in
    elim (leb_tells (length (made_tokens ms)) (length (made_tokens ns))) [
      | inl met ↦ let r = longer (made_tokens ms) (made_tokens ns) (front ++ t ∷ []) (back ++ u ∷ []) (sym d.text ∙ b.text) met.1 in same_made ms ns all front back t u d b r.0 n r.1 r.2
      | inr unmet ↦ let r = longer (made_tokens ns) (made_tokens ms) (back ++ u ∷ []) (front ++ t ∷ []) (sym b.text ∙ d.text) (omega (arith, unmet.1)) in sym (same_made ns ms all back front u t b d r.0 (sym n) r.1 r.2)
    ]
