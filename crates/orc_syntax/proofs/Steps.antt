-- One more token, as it was written.
use Rattle.std.specs.Prelude.{if◌then◌else◌}
use Rattle.std.proofs.Common.{◌≡◌, ℕ, suc, ◌+◌, Bool, true, false, List, [], ◌∷◌, ◌++◌, length, Result, Ok, Err, refl, sym, ap, subst, ◌∙◌, append_assoc, inl, inr, ◌⊎◌, arith}
use Rattle.std.proofs.lemmas.List.{append-nil}
use Rattle.orc_lex.specs.declared.token.Span.{Span}
use Rattle.orc_lex.specs.declared.token.Side.{Side}
use Rattle.orc_lex.specs.declared.token.Side.TheVariants as sides
use Rattle.orc_lex.specs.declared.token.What.{What}
use Rattle.orc_lex.specs.Tokens.{Sort, Word, One, Join, Arrow, Open, Close, Comma, Assign, Def, Val, Lexeme, token}
use Rattle.orc_syntax.specs.Tree.{Label, Link, Seq, Par, Prune, Other, Item, item, Tree, Trees, Nil, Cons, count, post, posts}
use Rattle.orc_syntax.specs.Tree as trees
use Rattle.orc_syntax.specs.Grammar.{Sign, Single, Double, Writing, plain, name, call, brackets, Writings, nothing, last, more, word, sign_tokens, link, tokens, tokens_of_all, head_tokens, span, tree, trees_of, left_level, ends_in_name, begins_in_bracket, IsApart, IsAt, AreArguments, AreMore, Made, made_tokens}
use Rattle.orc_syntax.specs.Machine.{Op, Bind, Frame, Before, Bracket, Arguments, Bound, Body, ValWord, Want, First, Have, Heads, Context, State, state, Reduced, reduced, reduce, takes_val, behind, begin, push, called, close, another, follow, go_on, behind_name, first, bind, second, whole, start}
use Rattle.orc_syntax.proofs.Complete.{operand, IsNoOpen, behind_variable, IsBeginning, turn, Accepts}
use Rattle.orc_syntax.proofs.Programs.{context_of}
use Rattle.orc_syntax.proofs.Sound.{Passed, Crumb, before, bracket, arguments, bound, within, body, val_word, def_word, want, opened, named, have, signed, variable, heads, made, given_posts, given_tokens, frames, spelled, held, params_of, Clear, clear_false, AreGiven, AreMade, IsFine, IsAtom, IsFirst, Carries, IsBare, Reduces, asks_atom, reduces}

abbrev pub done : State → Result State What
done s = Ok s

pub done_is : (s z : State) → done s ≡ done z → s ≡ z
done_is s z e = cc

-- what is asked where a bracket comes
abbrev pub IfOpen : Sort → Type 0 → Type 0
IfOpen Open A = A
IfOpen _ A = Unit {0}

-- a test that was met
met : (b : Bool) (s : State) (what : What) (z : State) → (if b then Ok s else Err what) ≡ done z → (b ≡ true) × (s ≡ z)
met true s what z e = (refl, done_is s z e)
met false s what z e = absurd cc

val_accepted : (k : List Frame) → takes_val k ≡ true → Accepts 0 k
val_accepted [] e = tt
val_accepted (Before (Op l) start ∷ k) e = absurd cc
val_accepted (Before (Bind x) start ∷ k) e = omega arith
val_accepted (Bracket start ∷ k) e = tt
val_accepted (Arguments x n ∷ k) e = tt
val_accepted (Bound x start ∷ k) e = tt
val_accepted (Body f ∷ k) e = tt

begins_val : (ts : List Lexeme) (ms : List Made) (cs : List Crumb) → AreMade ms → IsFine ms cs → ts ≡ spelled ms cs → (at : Span) (z : State) → begin Val at (context_of (made ms) (params_of cs)) (held cs) (frames cs) ≡ Ok z → Carries ms (ts ++ token Val at ∷ []) z
begins_val ts ms cs whole fine text at z e =
    let m = met (takes_val (frames cs)) (state (Heads (ValWord at.start)) (context_of (made ms) (params_of cs)) (held cs) (frames cs)) _ z e in
    record { spot = heads (val_word at); crumbs = cs; whole = whole; fine = fine; stands = val_accepted (frames cs) m.0; is = sym m.1; text = ap (λ (us : List Lexeme). us ++ token Val at ∷ []) text }

begins_def : (ts : List Lexeme) (ms : List Made) (cs : List Crumb) → AreMade ms → IsFine ms cs → ts ≡ spelled ms cs → (at : Span) (z : State) → begin Def at (context_of (made ms) (params_of cs)) (held cs) (frames cs) ≡ Ok z → Carries ms (ts ++ token Def at ∷ []) z
begins_def ts ms [] whole fine text at z e = record { spot = heads (def_word at); crumbs = []; whole = whole; fine = fine; stands = tt; is = sym (done_is _ z e); text = ap (λ (us : List Lexeme). us ++ token Def at ∷ []) text }
begins_def ts ms (c ∷ cs) whole fine text at z e = absurd cc

-- an expression begins, or a definition
pub begins : (ts : List Lexeme) (ms : List Made) (cs : List Crumb) → AreMade ms → IsFine ms cs → ts ≡ spelled ms cs → (sort : Sort) → IfOpen sort (Clear ms cs true) → (at : Span) (z : State) → begin sort at (context_of (made ms) (params_of cs)) (held cs) (frames cs) ≡ Ok z → Carries ms (ts ++ token sort at ∷ []) z
begins ts ms cs whole fine text (One p) free at z e = record { spot = have (plain p at); crumbs = cs; whole = whole; fine = fine; stands = (λ n. tt, clear_false ms cs, refl); is = sym (done_is _ z e); text = ap (λ (us : List Lexeme). us ++ token (One p) at ∷ []) text }
begins ts ms cs whole fine text (Word x) free at z e = record { spot = named (record { text = x; span = at }); crumbs = cs; whole = whole; fine = fine; stands = tt; is = sym (done_is _ z e); text = ap (λ (us : List Lexeme). us ++ token (Word x) at ∷ []) text }
begins ts ms cs whole fine text Open free at z e = record { spot = want; crumbs = bracket at ∷ cs; whole = whole; fine = (free, fine); stands = tt; is = sym (done_is _ z e); text = ap (λ (us : List Lexeme). us ++ token Open at ∷ []) text ∙ sym (append-nil _) }
begins ts ms cs whole fine text Val free at z e = begins_val ts ms cs whole fine text at z e
begins ts ms cs whole fine text Def free at z e = begins_def ts ms cs whole fine text at z e
begins ts ms cs whole fine text (Join j) free at z e = absurd cc
begins ts ms cs whole fine text (Arrow s) free at z e = absurd cc
begins ts ms cs whole fine text Close free at z e = absurd cc
begins ts ms cs whole fine text Comma free at z e = absurd cc
begins ts ms cs whole fine text Assign free at z e = absurd cc

-- an operator is behind its left side
pub pushes : (sign : Sign) (ts : List Lexeme) (ms : List Made) (w : Writing) (cs : List Crumb) → AreMade ms → IsAtom w → Clear ms cs (begins_in_bracket w) → IsFine ms cs → ts ≡ spelled ms cs ++ tokens w
    → Carries ms (ts ++ sign_tokens sign) (push (link sign) (context_of (made ms) (params_of cs)) (reduce (left_level (link sign)) (operand w) (held cs ++ post (tree w)) (frames cs)))
pushes sign ts ms w cs whole atom clear fine text =
    let r = reduces ms (left_level (link sign)) cs w fine (asks_atom ms cs w atom clear) clear (atom (left_level (link sign))) in
    record {
      spot = want;
      crumbs = before sign r.w' ∷ r.rest;
      whole = whole;
      fine = (r.at_m, r.fits (link sign) refl, r.clear, r.fine);
      stands = tt;
      is = ap (push (link sign) (context_of (made ms) (params_of cs))) r.gives ∙ ap (λ (ps : List Label). push (link sign) (context_of (made ms) ps) (reduced (operand r.w') (held r.rest ++ post (tree r.w')) (frames r.rest))) (sym r.params);
      text = ap (λ (us : List Lexeme). us ++ sign_tokens sign) (text ∙ sym r.text) ∙ append_assoc (spelled ms r.rest) (tokens r.w') (sign_tokens sign) ∙ sym (append-nil _);
    }

given_push_posts : (gs : List Passed) (g : Passed) → given_posts (gs ++ g ∷ []) ≡ given_posts gs ++ post (tree g.w)
given_push_posts [] g = append-nil (post (tree g.w))
given_push_posts (h ∷ gs) g = ap (λ (us : List Item). post (tree h.w) ++ us) (given_push_posts gs g) ∙ sym (append_assoc (post (tree h.w)) _ _)

given_push_tokens : (gs : List Passed) (g : Passed) → given_tokens (gs ++ g ∷ []) ≡ given_tokens gs ++ (tokens g.w ++ token Comma g.comma ∷ [])
given_push_tokens [] g = refl
given_push_tokens (h ∷ gs) g = ap (λ (ts : List Lexeme). tokens h.w ++ (token Comma h.comma ∷ ts)) (given_push_tokens gs g) ∙ sym (append_assoc (tokens h.w) _ _)

given_push_fine : (gs : List Passed) (g : Passed) → AreGiven gs → IsAt 0 g.w → AreGiven (gs ++ g ∷ [])
given_push_fine [] g fine h = (h, tt)
given_push_fine (k ∷ gs) g fine h = (fine.0, given_push_fine gs g fine.1 h)

suc-add : (n : ℕ) → suc (n + 1) ≡ suc n + 1
suc-add n = omega arith

one-zero : 1 ≡ 0 + 1
one-zero = omega arith

given_push_count : (gs : List Passed) (g : Passed) → length (gs ++ g ∷ []) ≡ length gs + 1
given_push_count [] g = one-zero
given_push_count (h ∷ gs) g = ap suc (given_push_count gs g) ∙ suc-add (length gs)

-- the arguments with their last one
abbrev pub with_last : List Passed → Writing → Writings
with_last [] w = last w
with_last (g ∷ gs) w = more g.w g.comma (with_last gs w)

last_posts : (gs : List Passed) (w : Writing) → posts (trees_of (with_last gs w)) ≡ given_posts gs ++ post (tree w)
last_posts [] w = append-nil (post (tree w))
last_posts (g ∷ gs) w = ap (λ (us : List Item). post (tree g.w) ++ us) (last_posts gs w) ∙ sym (append_assoc (post (tree g.w)) _ _)

last_count : (gs : List Passed) (w : Writing) → count (trees_of (with_last gs w)) ≡ length gs + 1
last_count [] w = one-zero
last_count (g ∷ gs) w = ap suc (last_count gs w) ∙ suc-add (length gs)

pub last_tokens : (gs : List Passed) (w : Writing) → tokens_of_all (with_last gs w) ≡ given_tokens gs ++ tokens w
last_tokens [] w = refl
last_tokens (g ∷ gs) w = ap (λ (ts : List Lexeme). tokens g.w ++ (token Comma g.comma ∷ ts)) (last_tokens gs w) ∙ sym (append_assoc (tokens g.w) _ _)

last_more : (gs : List Passed) (w : Writing) → AreGiven gs → IsAt 0 w → AreMore (with_last gs w)
last_more [] w fine h = h
last_more (g ∷ gs) w fine h = (fine.0, last_more gs w fine.1 h)

pub last_fine : (gs : List Passed) (w : Writing) → AreGiven gs → IsAt 0 w → AreArguments (with_last gs w)
last_fine [] w fine h = h
last_fine (g ∷ gs) w fine h = (fine.0, last_more gs w fine.1 h)

-- a call's nodes
called_posts : (x : Label) (o : Span) (gs : List Passed) (w : Writing) (c : Span) (ns : List Item)
    → ((ns ++ given_posts gs) ++ post (tree w)) ++ item (trees.call x (length gs + 1)) (span x.span.start c.end) ∷ [] ≡ ns ++ post (tree (call x o (with_last gs w) c))
called_posts x o gs w c ns =
    ap (λ (n : ℕ). ((ns ++ given_posts gs) ++ post (tree w)) ++ item (trees.call x n) (span x.span.start c.end) ∷ []) (sym (last_count gs w))
    ∙ ap (λ (us : List Item). us ++ item (trees.call x (count (trees_of (with_last gs w)))) (span x.span.start c.end) ∷ []) (append_assoc ns (given_posts gs) (post (tree w)) ∙ ap (λ (us : List Item). ns ++ us) (sym (last_posts gs w)))
    ∙ append_assoc ns (posts (trees_of (with_last gs w))) _

-- a bracket closes
pub closes : (w : Writing) (ms : List Made) (cs : List Crumb) (at : Span) (z : State) (ts : List Lexeme) → AreMade ms → IsFine ms cs → IsBare cs → IsAt 0 w → ts ≡ spelled ms cs ++ tokens w → close at.end (context_of (made ms) (params_of cs)) (held cs ++ post (tree w)) (frames cs) ≡ Ok z → Carries ms (ts ++ token Close at ∷ []) z
closes w ms [] at z ts whole fine bare h text e = absurd cc
closes w ms (before sign l ∷ cs) at z ts whole fine bare h text e = absurd bare
closes w ms (within v x q g ∷ cs) at z ts whole fine bare h text e = absurd bare
closes w ms (bound v x q ∷ cs) at z ts whole fine bare h text e = absurd cc
closes w ms (body k ∷ cs) at z ts whole fine bare h text e = absurd cc
closes w ms (bracket o ∷ cs) at z ts whole fine bare h text e = record {
  spot = have (brackets o w at);
  crumbs = cs;
  whole = whole;
  fine = fine.1;
  stands = (λ n. h, fine.0, refl);
  is = sym (done_is _ z e);
  text = ap (λ (us : List Lexeme). us ++ token Close at ∷ []) text ∙ simp append_assoc;
}
closes w ms (arguments x o gs ∷ cs) at z ts whole fine bare h text e =
    let v : Writing = call x o (with_last gs w) at in
    let same : tokens v ≡ (word x ∷ token Open o ∷ given_tokens gs) ++ (tokens w ++ token Close at ∷ []) =
    ap (λ (us : List Lexeme). word x ∷ token Open o ∷ (us ++ token Close at ∷ [])) (last_tokens gs w) ∙ ap (λ (us : List Lexeme). word x ∷ token Open o ∷ us) (append_assoc (given_tokens gs) (tokens w) _) in
    record {
      spot = have v;
      crumbs = cs;
      whole = whole;
      fine = fine.1;
      stands = (λ n. last_fine gs w fine.0 h, clear_false ms cs, refl);
      is = sym (done_is _ z e) ∙ ap (λ (us : List Item). state (Have (operand v)) (context_of (made ms) (params_of cs)) us (frames cs)) (called_posts x o gs w at (held cs));
      text = ap (λ (us : List Lexeme). us ++ token Close at ∷ []) text ∙ append_assoc _ (tokens w) _ ∙ append_assoc (spelled ms cs) _ _ ∙ ap (λ (us : List Lexeme). spelled ms cs ++ us) (sym same);
    }

-- an argument follows
pub another_carries : (w : Writing) (ms : List Made) (cs : List Crumb) (at : Span) (z : State) (ts : List Lexeme) → AreMade ms → IsFine ms cs → IsBare cs → IsAt 0 w → ts ≡ spelled ms cs ++ tokens w → another (context_of (made ms) (params_of cs)) (held cs ++ post (tree w)) (frames cs) ≡ Ok z → Carries ms (ts ++ token Comma at ∷ []) z
another_carries w ms [] at z ts whole fine bare h text e = absurd cc
another_carries w ms (before sign l ∷ cs) at z ts whole fine bare h text e = absurd bare
another_carries w ms (within v x q g ∷ cs) at z ts whole fine bare h text e = absurd bare
another_carries w ms (bound v x q ∷ cs) at z ts whole fine bare h text e = absurd cc
another_carries w ms (body k ∷ cs) at z ts whole fine bare h text e = absurd cc
another_carries w ms (bracket o ∷ cs) at z ts whole fine bare h text e = absurd cc
another_carries w ms (arguments x o gs ∷ cs) at z ts whole fine bare h text e =
    let g : Passed = record { w = w; comma = at } in
    let same : given_tokens (gs ++ g ∷ []) ≡ given_tokens gs ++ (tokens w ++ token Comma at ∷ []) = given_push_tokens gs g in
    let nodes : (held cs ++ given_posts gs) ++ post (tree w) ≡ held cs ++ given_posts (gs ++ g ∷ []) = append_assoc (held cs) _ _ ∙ ap (λ (us : List Item). held cs ++ us) (sym (given_push_posts gs g)) in
    record {
      spot = want;
      crumbs = arguments x o (gs ++ g ∷ []) ∷ cs;
      whole = whole;
      fine = (given_push_fine gs g fine.0 h, fine.1);
      stands = tt;
      is = sym (done_is _ z e)
          ∙ ap (λ (us : List Item). state Want (context_of (made ms) (params_of cs)) us (Arguments x (length gs + 1) ∷ frames cs)) nodes
          ∙ ap (λ (n : ℕ). state Want (context_of (made ms) (params_of cs)) (held cs ++ given_posts (gs ++ g ∷ [])) (Arguments x n ∷ frames cs)) (sym (given_push_count gs g));
      text = ap (λ (us : List Lexeme). us ++ token Comma at ∷ []) text ∙ append_assoc _ (tokens w) _ ∙ append_assoc (spelled ms cs) _ _
          ∙ ap (λ (us : List Lexeme). spelled ms cs ++ (word x ∷ token Open o ∷ us)) (sym same) ∙ sym (append-nil _);
    }

-- one more token: of the same definition or main expression, or the first behind a definition that is whole
abbrev pub Goes : List Made → List Lexeme → Lexeme → State → Type 0
Goes ms ts t z = Carries ms (ts ++ t ∷ []) z ⊎ ((m : Made) × (made_tokens (m ∷ ms) ≡ ts) × Carries (m ∷ ms) (ts ++ t ∷ []) z)

-- behind a whole G or body another expression begins
turns : (w : Writing) (ms : List Made) (cs : List Crumb) (what : What) (sort : Sort) (at : Span) (z : State) (ts : List Lexeme) → AreMade ms → IsFine ms cs → IsBare cs → IsAt 0 w → IfOpen sort (IsApart w true) → ts ≡ spelled ms cs ++ tokens w
    → follow what sort at (context_of (made ms) (params_of cs)) (held cs ++ post (tree w)) (frames cs) ≡ Ok z → Goes ms ts (token sort at) z
turns w ms [] what sort at z ts whole fine bare h free text e = absurd cc
turns w ms (before sign l ∷ cs) what sort at z ts whole fine bare h free text e = absurd bare
turns w ms (within v x q g ∷ cs) what sort at z ts whole fine bare h free text e = absurd bare
turns w ms (bracket o ∷ cs) what sort at z ts whole fine bare h free text e = absurd cc
turns w ms (arguments x o gs ∷ cs) what sort at z ts whole fine bare h free text e = absurd cc
turns w ms (bound v x q ∷ cs) what sort at z ts whole fine bare h free text e =
    inl (begins ts ms (within v x q w ∷ cs) whole (h, fine.0, fine.1) (text ∙ append_assoc (spelled ms cs) _ (tokens w)) sort free at z e)
turns w ms (body k ∷ []) what sort at z ts whole fine bare h free text e =
    let m : Made = record { head = k; body = w } in
    let front : ts ≡ made_tokens (m ∷ ms) = text ∙ append_assoc (made_tokens ms) (head_tokens k) (tokens w) in
    inr (m, sym front, begins ts (m ∷ ms) [] (h, whole) tt front sort free at z e)
turns w ms (body k ∷ c ∷ cs) what sort at z ts whole fine bare h free text e = absurd fine.0

begun_open : (w : Writing) → ends_in_name w ≡ false → IsApart w true
begun_open w e = rw e refl

if_open : (sort : Sort) (w : Writing) → ends_in_name w ≡ false → IfOpen sort (IsApart w true)
if_open Open w e = begun_open w e
if_open (Word x) w e = tt
if_open (One p) w e = tt
if_open (Join j) w e = tt
if_open (Arrow s) w e = tt
if_open Close w e = tt
if_open Comma w e = tt
if_open Assign w e = tt
if_open Def w e = tt
if_open Val w e = tt

if_other : (sort : Sort) (w : Writing) → IsNoOpen sort → IfOpen sort (IsApart w true)
if_other Open w h = absurd h
if_other (Word x) w h = tt
if_other (One p) w h = tt
if_other (Join j) w h = tt
if_other (Arrow s) w h = tt
if_other Close w h = tt
if_other Comma w h = tt
if_other Assign w h = tt
if_other Def w h = tt
if_other Val w h = tt

-- where a bracket would be a call, none comes
abbrev pub IsKept : Sort → Writing → Type 0
IsKept sort w = IsNoOpen sort ⊎ (ends_in_name w ≡ false)

kept_open : (sort : Sort) (w : Writing) → IsKept sort w → IfOpen sort (IsApart w true)
kept_open sort w (inl h) = if_other sort w h
kept_open sort w (inr h) = if_open sort w h

kept_by : (sort : Sort) (w v : Writing) → ends_in_name v ≡ ends_in_name w → IsKept sort w → IsKept sort v
kept_by sort w v e (inl h) = inl h
kept_by sort w v e (inr h) = inr (e ∙ h)

-- an operand in its place
pub record Stands (ts : List Lexeme) (ms : List Made) (w : Writing) (cs : List Crumb) : Type 0 where
  pub whole : AreMade ms
  pub atom : IsAtom w
  pub clear : Clear ms cs (begins_in_bracket w)
  pub fine : IsFine ms cs
  pub text : ts ≡ spelled ms cs ++ tokens w

reduced_at : (ts : List Lexeme) (ms : List Made) (w : Writing) (cs : List Crumb) → Stands ts ms w cs → Reduces ms 0 w cs
reduced_at ts ms w cs s = reduces ms 0 cs w s.fine (asks_atom ms cs w s.atom s.clear) s.clear (s.atom 0)

context_is : (ms : List Made) (ps qs : List Label) → ps ≡ qs → context_of (made ms) ps ≡ context_of (made ms) qs
context_is ms ps qs e = ap (context_of (made ms)) e

closes_reduced : (ts : List Lexeme) (ms : List Made) (w : Writing) (cs : List Crumb) → Stands ts ms w cs → (at : Span) (z : State) → go_on (operand w) Close at (context_of (made ms) (params_of cs)) (held cs ++ post (tree w)) (frames cs) ≡ Ok z → Carries ms (ts ++ token Close at ∷ []) z
closes_reduced ts ms w cs s at z e =
    let r = reduced_at ts ms w cs s in
    closes r.w' ms r.rest at z ts s.whole r.fine (r.bare refl) r.at_m (s.text ∙ sym r.text)
    (ap (λ (d : Context). close at.end d (held r.rest ++ post (tree r.w')) (frames r.rest)) (context_is ms _ _ r.params) ∙ ap (λ (p : Reduced). close at.end (context_of (made ms) (params_of cs)) p.nodes p.frames) (sym r.gives) ∙ e)

separates : (ts : List Lexeme) (ms : List Made) (w : Writing) (cs : List Crumb) → Stands ts ms w cs → (at : Span) (z : State) → go_on (operand w) Comma at (context_of (made ms) (params_of cs)) (held cs ++ post (tree w)) (frames cs) ≡ Ok z → Carries ms (ts ++ token Comma at ∷ []) z
separates ts ms w cs s at z e =
    let r = reduced_at ts ms w cs s in
    another_carries r.w' ms r.rest at z ts s.whole r.fine (r.bare refl) r.at_m (s.text ∙ sym r.text)
    (ap (λ (d : Context). another d (held r.rest ++ post (tree r.w')) (frames r.rest)) (context_is ms _ _ r.params) ∙ ap (λ (p : Reduced). another (context_of (made ms) (params_of cs)) p.nodes p.frames) (sym r.gives) ∙ e)

follows_on : (ts : List Lexeme) (ms : List Made) (w : Writing) (cs : List Crumb) → Stands ts ms w cs → (sort : Sort) → IsBeginning sort → IsKept sort w → (at : Span) (z : State) → go_on (operand w) sort at (context_of (made ms) (params_of cs)) (held cs ++ post (tree w)) (frames cs) ≡ Ok z → Goes ms ts (token sort at) z
follows_on ts ms w cs s sort b kept at z e =
    let r = reduced_at ts ms w cs s in
    let d : Context = context_of (made ms) (params_of cs) in
    turns r.w' ms r.rest (behind (frames cs)) sort at z ts s.whole r.fine (r.bare refl) r.at_m (kept_open sort r.w' (kept_by sort w r.w' r.ends kept)) (s.text ∙ sym r.text)
    (ap (λ (c : Context). follow (behind (frames cs)) sort at c (held r.rest ++ post (tree r.w')) (frames r.rest)) (context_is ms _ _ r.params)
    ∙ ap (λ (p : Reduced). follow (behind (frames cs)) sort at d p.nodes p.frames) (sym r.gives) ∙ sym (turn (operand w) sort at d (held cs ++ post (tree w)) (frames cs) b) ∙ e)

pub goes_on : (ts : List Lexeme) (ms : List Made) (w : Writing) (cs : List Crumb) → Stands ts ms w cs → (sort : Sort) → IsKept sort w → (at : Span) (z : State) → go_on (operand w) sort at (context_of (made ms) (params_of cs)) (held cs ++ post (tree w)) (frames cs) ≡ Ok z → Goes ms ts (token sort at) z
goes_on ts ms w cs s (Join j) kept at z e = inl (subst (λ (q : State). Carries ms (ts ++ token (Join j) at ∷ []) q) (done_is _ z e) (pushes (Single j at) ts ms w cs s.whole s.atom s.clear s.fine s.text))
goes_on ts ms w cs s (Arrow side) kept at z e = inl (record { spot = signed side at w; crumbs = cs; whole = s.whole; fine = s.fine; stands = (s.atom, s.clear); is = sym (done_is _ z e); text = ap (λ (us : List Lexeme). us ++ token (Arrow side) at ∷ []) s.text ∙ append_assoc (spelled ms cs) (tokens w) _ })
goes_on ts ms w cs s Close kept at z e = inl (closes_reduced ts ms w cs s at z e)
goes_on ts ms w cs s Comma kept at z e = inl (separates ts ms w cs s at z e)
goes_on ts ms w cs s Assign kept at z e = absurd cc
goes_on ts ms w cs s (One p) kept at z e = follows_on ts ms w cs s (One p) tt kept at z e
goes_on ts ms w cs s (Word x) kept at z e = follows_on ts ms w cs s (Word x) tt kept at z e
goes_on ts ms w cs s Open kept at z e = follows_on ts ms w cs s Open tt kept at z e
goes_on ts ms w cs s Def kept at z e = follows_on ts ms w cs s Def tt kept at z e
goes_on ts ms w cs s Val kept at z e = follows_on ts ms w cs s Val tt kept at z e

pub name_stands : (ts : List Lexeme) (ms : List Made) (x : Label) (cs : List Crumb) → AreMade ms → IsFine ms cs → ts ≡ spelled ms cs ++ tokens (name x) → Stands ts ms (name x) cs
name_stands ts ms x cs whole fine text = record { whole = whole; atom = λ n. tt; clear = clear_false ms cs; fine = fine; text = text }

after_name : (ts : List Lexeme) (ms : List Made) (x : Label) (cs : List Crumb) → AreMade ms → IsFine ms cs → ts ≡ spelled ms cs ++ tokens (name x) → (sort : Sort) (at : Span) (z : State) → IsNoOpen sort → behind_name x sort at (context_of (made ms) (params_of cs)) (held cs) (frames cs) ≡ Ok z → Goes ms ts (token sort at) z
after_name ts ms x cs whole fine text sort at z other e = goes_on ts ms (name x) cs (name_stands ts ms x cs whole fine text) sort (inl other) at z (sym (behind_variable x sort at (context_of (made ms) (params_of cs)) (held cs) (frames cs) other) ∙ e)

pub names : (ts : List Lexeme) (ms : List Made) (x : Label) (cs : List Crumb) → AreMade ms → IsFine ms cs → ts ≡ spelled ms cs ++ tokens (name x) → (sort : Sort) (at : Span) (z : State) → behind_name x sort at (context_of (made ms) (params_of cs)) (held cs) (frames cs) ≡ Ok z → Goes ms ts (token sort at) z
names ts ms x cs whole fine text Open at z e = inl (record {
  spot = opened;
  crumbs = arguments x at [] ∷ cs;
  whole = whole;
  fine = (tt, fine);
  stands = refl;
  is = sym (done_is _ z e) ∙ ap (λ (us : List Item). state First (context_of (made ms) (params_of cs)) us (Arguments x 0 ∷ frames cs)) (sym (append-nil (held cs)));
  text = ap (λ (us : List Lexeme). us ++ token Open at ∷ []) text ∙ append_assoc (spelled ms cs) _ _ ∙ sym (append-nil _);
})
names ts ms x cs whole fine text (Word y) at z e = after_name ts ms x cs whole fine text (Word y) at z tt e
names ts ms x cs whole fine text (One p) at z e = after_name ts ms x cs whole fine text (One p) at z tt e
names ts ms x cs whole fine text (Join j) at z e = after_name ts ms x cs whole fine text (Join j) at z tt e
names ts ms x cs whole fine text (Arrow s) at z e = after_name ts ms x cs whole fine text (Arrow s) at z tt e
names ts ms x cs whole fine text Close at z e = after_name ts ms x cs whole fine text Close at z tt e
names ts ms x cs whole fine text Comma at z e = after_name ts ms x cs whole fine text Comma at z tt e
names ts ms x cs whole fine text Assign at z e = after_name ts ms x cs whole fine text Assign at z tt e
names ts ms x cs whole fine text Def at z e = after_name ts ms x cs whole fine text Def at z tt e
names ts ms x cs whole fine text Val at z e = after_name ts ms x cs whole fine text Val at z tt e

none_given : (ts : List Lexeme) (ms : List Made) (x : Label) (o : Span) (gs : List Passed) (cs : List Crumb) → AreMade ms → IsFine ms cs → gs ≡ [] → ts ≡ spelled ms (arguments x o gs ∷ cs) → (at : Span) (z : State)
    → done (called x (length gs) at.end (context_of (made ms) (params_of cs)) (held cs ++ given_posts gs) (frames cs)) ≡ done z → Carries ms (ts ++ token Close at ∷ []) z
none_given ts ms x o gs cs whole fine none text at z e =
    let v : Writing = call x o nothing at in
    record {
      spot = have v;
      crumbs = cs;
      whole = whole;
      fine = fine;
      stands = (λ n. tt, clear_false ms cs, refl);
      is = sym (done_is _ z e) ∙ ap (λ (us : List Passed). called x (length us) at.end (context_of (made ms) (params_of cs)) (held cs ++ given_posts us) (frames cs)) none
          ∙ ap (λ (us : List Item). called x 0 at.end (context_of (made ms) (params_of cs)) us (frames cs)) (append-nil (held cs));
      text = ap (λ (us : List Lexeme). us ++ token Close at ∷ []) (text ∙ ap (λ (us : List Passed). spelled ms cs ++ (word x ∷ token Open o ∷ given_tokens us)) none) ∙ append_assoc (spelled ms cs) _ _;
    }

opens_none : (ts : List Lexeme) (ms : List Made) (cs : List Crumb) → AreMade ms → IsFine ms cs → IsFirst cs → ts ≡ spelled ms cs → (at : Span) (z : State) → first Close at (context_of (made ms) (params_of cs)) (held cs) (frames cs) ≡ Ok z → Carries ms (ts ++ token Close at ∷ []) z
opens_none ts ms [] whole fine f text at z e = absurd f
opens_none ts ms (before sign l ∷ cs) whole fine f text at z e = absurd f
opens_none ts ms (bracket o ∷ cs) whole fine f text at z e = absurd f
opens_none ts ms (bound v x q ∷ cs) whole fine f text at z e = absurd f
opens_none ts ms (within v x q g ∷ cs) whole fine f text at z e = absurd f
opens_none ts ms (body k ∷ cs) whole fine f text at z e = absurd f
opens_none ts ms (arguments x o gs ∷ cs) whole fine f text at z e = none_given ts ms x o gs cs whole fine.1 f text at z e

first_clear : (ms : List Made) (cs : List Crumb) → IsFirst cs → Clear ms cs true
first_clear ms [] f = absurd f
first_clear ms (before sign l ∷ cs) f = absurd f
first_clear ms (bracket o ∷ cs) f = absurd f
first_clear ms (bound v x q ∷ cs) f = absurd f
first_clear ms (within v x q g ∷ cs) f = absurd f
first_clear ms (body k ∷ cs) f = absurd f
first_clear ms (arguments x o gs ∷ cs) f = tt

pub all_open : (sort : Sort) (A : Type 0) → A → IfOpen sort A
all_open Open A a = a
all_open (Word y) A a = tt
all_open (One p) A a = tt
all_open (Join j) A a = tt
all_open (Arrow s) A a = tt
all_open Close A a = tt
all_open Comma A a = tt
all_open Assign A a = tt
all_open Def A a = tt
all_open Val A a = tt

pub firsts : (ts : List Lexeme) (ms : List Made) (cs : List Crumb) → AreMade ms → IsFine ms cs → IsFirst cs → ts ≡ spelled ms cs → (sort : Sort) (at : Span) (z : State) → first sort at (context_of (made ms) (params_of cs)) (held cs) (frames cs) ≡ Ok z → Carries ms (ts ++ token sort at ∷ []) z
firsts ts ms cs whole fine f text Close at z e = opens_none ts ms cs whole fine f text at z e
firsts ts ms cs whole fine f text Open at z e = begins ts ms cs whole fine text Open (first_clear ms cs f) at z e
firsts ts ms cs whole fine f text (Word y) at z e = begins ts ms cs whole fine text (Word y) tt at z e
firsts ts ms cs whole fine f text (One p) at z e = begins ts ms cs whole fine text (One p) tt at z e
firsts ts ms cs whole fine f text (Join j) at z e = begins ts ms cs whole fine text (Join j) tt at z e
firsts ts ms cs whole fine f text (Arrow s) at z e = begins ts ms cs whole fine text (Arrow s) tt at z e
firsts ts ms cs whole fine f text Comma at z e = begins ts ms cs whole fine text Comma tt at z e
firsts ts ms cs whole fine f text Assign at z e = begins ts ms cs whole fine text Assign tt at z e
firsts ts ms cs whole fine f text Def at z e = begins ts ms cs whole fine text Def tt at z e
firsts ts ms cs whole fine f text Val at z e = begins ts ms cs whole fine text Val tt at z e

pub binds : (ts : List Lexeme) (ms : List Made) (s : Side) (p : Span) (w : Writing) (cs : List Crumb) → AreMade ms → IsFine ms cs → IsAtom w → Clear ms cs (begins_in_bracket w) → ts ≡ spelled ms cs ++ (tokens w ++ token (Arrow s) p ∷ []) → (sort : Sort) (at : Span) (z : State) → bind s (operand w) sort at (context_of (made ms) (params_of cs)) (held cs ++ post (tree w)) (frames cs) ≡ Ok z → Carries ms (ts ++ token sort at ∷ []) z
binds ts ms s p w cs whole fine atom clear text (Word y) at z e = record { spot = variable s p w (record { text = y; span = at }); crumbs = cs; whole = whole; fine = fine; stands = (atom, clear); is = sym (done_is _ z e); text = ap (λ (us : List Lexeme). us ++ token (Word y) at ∷ []) text ∙ append_assoc (spelled ms cs) _ _ ∙ ap (λ (us : List Lexeme). spelled ms cs ++ us) (append_assoc (tokens w) _ _) }
binds ts ms s p w cs whole fine atom clear text (One p') at z e = absurd cc
binds ts ms s p w cs whole fine atom clear text (Join j) at z e = absurd cc
binds ts ms s p w cs whole fine atom clear text (Arrow t) at z e = absurd cc
binds ts ms s p w cs whole fine atom clear text Open at z e = absurd cc
binds ts ms s p w cs whole fine atom clear text Close at z e = absurd cc
binds ts ms s p w cs whole fine atom clear text Comma at z e = absurd cc
binds ts ms s p w cs whole fine atom clear text Assign at z e = absurd cc
binds ts ms s p w cs whole fine atom clear text Def at z e = absurd cc
binds ts ms s p w cs whole fine atom clear text Val at z e = absurd cc

joins : (ts : List Lexeme) (ms : List Made) (s : Side) (p : Span) (w : Writing) (x : Label) (cs : List Crumb) → AreMade ms → IsFine ms cs → IsAtom w → Clear ms cs (begins_in_bracket w) → ts ≡ spelled ms cs ++ (tokens w ++ (token (Arrow s) p ∷ word x ∷ [])) → (at : Span) (z : State)
    → done (push (link (Double s p x at)) (context_of (made ms) (params_of cs)) (reduce (left_level (link (Double s p x at))) (operand w) (held cs ++ post (tree w)) (frames cs))) ≡ Ok z → Carries ms (ts ++ token (Arrow s) at ∷ []) z
joins ts ms s p w x cs whole fine atom clear text at z e =
    let sign : Sign = Double s p x at in
    let front : ts ++ token (Arrow s) at ∷ [] ≡ (spelled ms cs ++ tokens w) ++ sign_tokens sign =
    ap (λ (us : List Lexeme). us ++ token (Arrow s) at ∷ []) text ∙ simp append_assoc in
    let q = pushes sign (spelled ms cs ++ tokens w) ms w cs whole atom clear fine refl in
    subst (λ (us : List Lexeme). Carries ms us z) (sym front) (subst (λ (st : State). Carries ms ((spelled ms cs ++ tokens w) ++ sign_tokens sign) st) (done_is _ z e) q)

pub seconds : (ts : List Lexeme) (ms : List Made) (s : Side) (p : Span) (w : Writing) (x : Label) (cs : List Crumb) → AreMade ms → IsFine ms cs → IsAtom w → Clear ms cs (begins_in_bracket w) → ts ≡ spelled ms cs ++ (tokens w ++ (token (Arrow s) p ∷ word x ∷ [])) → (sort : Sort) (at : Span) (z : State) → second s (operand w) x sort (context_of (made ms) (params_of cs)) (held cs ++ post (tree w)) (frames cs) ≡ Ok z → Carries ms (ts ++ token sort at ∷ []) z
seconds ts ms sides.Right p w x cs whole fine atom clear text (Arrow sides.Right) at z e = joins ts ms sides.Right p w x cs whole fine atom clear text at z e
seconds ts ms sides.Left p w x cs whole fine atom clear text (Arrow sides.Left) at z e = joins ts ms sides.Left p w x cs whole fine atom clear text at z e
seconds ts ms sides.Right p w x cs whole fine atom clear text (Arrow sides.Left) at z e = absurd cc
seconds ts ms sides.Left p w x cs whole fine atom clear text (Arrow sides.Right) at z e = absurd cc
seconds ts ms s p w x cs whole fine atom clear text (Word y) at z e = absurd cc
seconds ts ms s p w x cs whole fine atom clear text (One p') at z e = absurd cc
seconds ts ms s p w x cs whole fine atom clear text (Join j) at z e = absurd cc
seconds ts ms s p w x cs whole fine atom clear text Open at z e = absurd cc
seconds ts ms s p w x cs whole fine atom clear text Close at z e = absurd cc
seconds ts ms s p w x cs whole fine atom clear text Comma at z e = absurd cc
seconds ts ms s p w x cs whole fine atom clear text Assign at z e = absurd cc
seconds ts ms s p w x cs whole fine atom clear text Def at z e = absurd cc
seconds ts ms s p w x cs whole fine atom clear text Val at z e = absurd cc
