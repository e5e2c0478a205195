-- How far a text has been read.
use Rattle.std.specs.Prelude.{if◌then◌else◌, nat_lt}
use Rattle.std.proofs.Common.{◌≡◌, ℕ, suc, ◌≤◌, ◌<◌, Bool, true, false, List, [], ◌∷◌, ◌++◌, length, map, Ok, Err, refl, sym, ap, subst, ◌∙◌, append_assoc, inl, inr, arith}
use Rattle.std.proofs.lemmas.Bool.Decides.{leb_tells}
use Rattle.std.proofs.lemmas.List.{append-nil}
use Rattle.orc_lex.specs.declared.token.What.{What}
use Rattle.orc_lex.specs.declared.token.Unread.{Unread}
use Rattle.orc_lex.specs.declared.token.Unread.TheVariants as unread
use Rattle.orc_lex.specs.Tokens.{Lexeme}
use Rattle.orc_lex.specs.Lexing.{Gap, Item as Token_piece, Bad, IsPiece, Cut}
use Rattle.orc_lex.proofs.Cutting.{cut_gap, cut_lexeme, cut_none}
use Rattle.orc_syntax.specs.declared.tree.Ast.{Ast}
use Rattle.orc_syntax.specs.declared.tree.Definition.{Definition}
use Rattle.orc_syntax.specs.declared.reader.Mode.{Mode as Code_mode}
use Rattle.orc_syntax.specs.declared.reader.Reader.{Reader}
use Rattle.orc_syntax.specs.declared.reader.StepError.{StepError}
use Rattle.orc_syntax.specs.declared.reader.StepError.TheVariants as errors
use Rattle.orc_syntax.specs.declared.fault.SyntaxFault.{SyntaxFault}
use Rattle.orc_syntax.specs.Tree.{Item, Define, Source}
use Rattle.orc_syntax.specs.Ast.{AreDefinitions, IsAst}
use Rattle.orc_syntax.specs.Grammar.{Program, IsProgram, behind_all, first_part, Made, made_tokens}
use Rattle.orc_syntax.specs.Deep.{Count, none, counted, counted_on, counts, IsTooDeep}
use Rattle.orc_syntax.specs.Machine.{Mode, Want, Frame, Defined, Context, State, state, Posted, advance, step, then_run, run, finish, start}
use Rattle.orc_syntax.specs.Text.{IsShallow, IsShallowBefore, SpellsTokens, BeginsText, StopsAt, IsDeepAt, IsFault, IfFault, place, fault_at}
use Rattle.orc_syntax.specs.View.{mode, context, nodes, stack, definition, ends, Ends, from_here, Takes, fault_by}
use Rattle.orc_syntax.proofs.Cuts.{token_at, head_is, tail_is, last_of, before_token, before_cut, cut_in}
use Rattle.orc_syntax.proofs.Parts.{Derived, derived, one_split}
use Rattle.orc_syntax.proofs.Running.{run_append}
use Rattle.orc_syntax.proofs.Programs.{one_made, posted_define, posted}
use Rattle.orc_syntax.proofs.Sound.{made, Carries}
use Rattle.orc_syntax.proofs.Steps.{Goes}
use Rattle.orc_syntax.proofs.Heads.{steps, starts}
use Rattle.orc_syntax.proofs.Laws.{part_of, part_is, filled, carried_begins, found, stuck_at, stuck_end, cancel}
use Rattle.orc_syntax.proofs.Wanted.{wanted_at, wanted_end}

-- No token of these is one too many brackets, `val`s or operators in its part.
abbrev pub ShallowIn : List Lexeme → Type 0
ShallowIn ts = (ms : List Made) (q : Program) (front : List Lexeme) (next : Lexeme) (rest vs : List Lexeme) → IsProgram (behind_all ms q) → first_part q ≡ front ++ next ∷ rest → ts ≡ (made_tokens ms ++ (front ++ next ∷ [])) ++ vs → IsTooDeep (counts front) next.sort → ⊥

-- Up to here the text is these tokens, which lead to this state, and this stands before it in the definition or main expression.
pub record Progress (src : List ℕ) (at : ℕ) (z : State) (c : Count) : Type 0 where
  pub ts : List Lexeme
  pub ms : List Made
  pub part : List Lexeme
  pub cut : Cut src ts at
  pub ran : run ts start ≡ Ok z
  pub carries : Carries ms ts z
  pub splits : ts ≡ made_tokens ms ++ part
  pub count : c ≡ counts part
  pub shallow : ShallowIn ts

no_end : (us front : List Lexeme) (next : Lexeme) (vs : List Lexeme) → [] ≡ (us ++ (front ++ next ∷ [])) ++ vs → ⊥
no_end [] [] next vs e = absurd cc
no_end [] (f ∷ front) next vs e = absurd cc
no_end (u ∷ us) front next vs e = absurd cc

one_end : (next : Lexeme) (ys : List Lexeme) → [] ≡ ys ++ next ∷ [] → ⊥
one_end next [] e = absurd cc
one_end next (y ∷ ys) e = absurd cc

-- what ends in one token
ends_in : (xs ys : List Lexeme) (t u : Lexeme) → xs ++ t ∷ [] ≡ ys ++ u ∷ [] → (xs ≡ ys) × (t ≡ u)
ends_in [] [] t u e = (refl, head_is e)
ends_in [] (y ∷ ys) t u e = absurd (one_end u ys (tail_is e))
ends_in (x ∷ xs) [] t u e = absurd (one_end t xs (sym (tail_is e)))
ends_in (x ∷ xs) (y ∷ ys) t u e =
    let r = ends_in xs ys t u (tail_is e) in
    (ap (λ (v : Lexeme). v ∷ xs) (head_is e) ∙ ap (λ (us : List Lexeme). y ∷ us) r.0, r.1)

pub nothing_yet : (src : List ℕ) → Progress src 0 start none
nothing_yet src = record { ts = []; ms = []; part = []; cut = cut_none src; ran = refl; carries = starts; splits = refl; count = refl; shallow = λ ms q front next rest vs g p e. absurd (no_end (made_tokens ms) front next vs e) }

pub over_gap : (src : List ℕ) (at end : ℕ) (z : State) (c : Count) → Progress src at z c → IsPiece src at (Gap end) → Progress src end z c
over_gap src at end z c p h = record { ts = p.ts; ms = p.ms; part = p.part; cut = cut_gap src p.ts at end p.cut h; ran = p.ran; carries = p.carries; splits = p.splits; count = p.count; shallow = p.shallow }

counted_push : (c : Count) (ts : List Lexeme) (t : Lexeme) → counted_on c (ts ++ t ∷ []) ≡ counted (counted_on c ts) t.sort
counted_push c [] t = refl
counted_push c (u ∷ ts) t = counted_push (counted c u.sort) ts t

lt_itself : (n : ℕ) → nat_lt n n ≡ false
lt_itself n = elim (leb_tells (suc n) n) [ inl met ↦ absurd (omega (arith, met.1)) | inr unmet ↦ unmet.0 ]

lt_more : (n m : ℕ) → n < m → nat_lt n m ≡ true
lt_more n m h = elim (leb_tells (suc n) m) [ inl met ↦ met.0 | inr unmet ↦ absurd (omega (arith, unmet.1, h)) ]

definitions_of : (ms : List Made) (ts : List Lexeme) (z : State) → Carries ms ts z → length z.context.definitions ≡ length (made ms)
definitions_of ms ts z c = ap (λ (s : State). length s.context.definitions) c.is

length_push : {A : Type 0} (xs : List A) (x : A) → length xs < length (xs ++ x ∷ [])
length_push [] x = omega arith
length_push (y ∷ xs) x = omega (arith, length_push xs x)

same_part : (old new : Context) (c : Count) → length new.definitions ≡ length old.definitions → from_here old new c ≡ c
same_part old new c e = ap (λ (b : Bool). if b then none else c) (ap (λ (n : ℕ). nat_lt (length old.definitions) n) e ∙ lt_itself (length old.definitions))

new_part : (old new : Context) (c : Count) → length old.definitions < length new.definitions → from_here old new c ≡ none
new_part old new c h = ap (λ (b : Bool). if b then none else c) (lt_more (length old.definitions) (length new.definitions) h)

-- the part that one more token belongs to
record Parted (ts : List Lexeme) (t : Lexeme) (z y : State) (c : Count) : Type 0 where
  ms : List Made
  part : List Lexeme
  carries : Carries ms (ts ++ t ∷ []) y
  splits : ts ≡ made_tokens ms ++ part
  count : from_here z.context y.context c ≡ counts part

parted : (src : List ℕ) (at : ℕ) (z : State) (c : Count) (p : Progress src at z c) (t : Lexeme) (y : State) → Goes p.ms p.ts t y → Parted p.ts t z y c
parted src at z c p t y (inl k) = record {
  ms = p.ms;
  part = p.part;
  carries = k;
  splits = p.splits;
  count = same_part z.context y.context c (definitions_of p.ms (p.ts ++ t ∷ []) y k ∙ sym (definitions_of p.ms p.ts z p.carries)) ∙ p.count;
}
parted src at z c p t y (inr (m, e, k)) = record {
  ms = m ∷ p.ms;
  part = [];
  carries = k;
  splits = sym e ∙ sym (append-nil _);
  count = new_part z.context y.context c (omega (arith, definitions_of p.ms p.ts z p.carries, definitions_of (m ∷ p.ms) (p.ts ++ t ∷ []) y k, length_push (made p.ms) (one_made m.head m.body)));
}

-- the part of one more token, as a derivation
parted_derived : (ts : List Lexeme) (t : Lexeme) (z y : State) (c : Count) (q : Parted ts t z y c) → Derived q.ms (ts ++ t ∷ []) q.part t
parted_derived ts t z y c q =
    let f = filled q.ms (ts ++ t ∷ []) y q.carries in
    let all : ts ++ t ∷ [] ≡ made_tokens q.ms ++ (q.part ++ t ∷ []) = ap (λ (us : List Lexeme). us ++ t ∷ []) q.splits ∙ append_assoc (made_tokens q.ms) q.part (t ∷ []) in
    let local : part_of q.carries ≡ q.part ++ t ∷ [] = cancel (made_tokens q.ms) _ _ (sym (part_is q.ms (ts ++ t ∷ []) y q.carries) ∙ all) in
    derived q.ms f.q (ts ++ t ∷ []) q.part f.rest t f.at (f.text ∙ ap (λ (us : List Lexeme). us ++ f.rest) local ∙ append_assoc q.part (t ∷ []) f.rest) all

deep_as : (front part : List Lexeme) (next t : Lexeme) → front ++ next ∷ [] ≡ part ++ t ∷ [] → IsTooDeep (counts front) next.sort → IsTooDeep (counts part) t.sort
deep_as front part next t e deep =
    let r = ends_in front part next t e in
    subst (λ (u : Lexeme). IsTooDeep (counts part) u.sort) r.1 (subst (λ (us : List Lexeme). IsTooDeep (counts us) next.sort) r.0 deep)

-- one more token that isn't too deep
still_shallow : (ts : List Lexeme) (t : Lexeme) (z y : State) (c : Count) → ShallowIn ts → run (ts ++ t ∷ []) start ≡ Ok y → Parted ts t z y c → (IsTooDeep (from_here z.context y.context c) t.sort → ⊥) → ShallowIn (ts ++ t ∷ [])
still_shallow ts t z y c shallow on q not ms p front next rest vs grammar part e deep =
    elim (last_of ts t (made_tokens ms ++ (front ++ next ∷ [])) vs e) [
      | inl nothing ↦
          let here : ts ++ t ∷ [] ≡ made_tokens ms ++ (front ++ next ∷ []) = e ∙ ap (λ (us : List Lexeme). (made_tokens ms ++ (front ++ next ∷ [])) ++ us) nothing ∙ append-nil _ in
          let same = one_split ms q.ms (ts ++ t ∷ []) front q.part next t (derived ms p (ts ++ t ∷ []) front rest next grammar part here) (parted_derived ts t z y c q) y on in
          not (subst (λ (d : Count). IsTooDeep d t.sort) (sym q.count) (deep_as front q.part next t same deep))
      | inr some ↦
          let all : ts ++ t ∷ [] ≡ ((made_tokens ms ++ (front ++ next ∷ [])) ++ some.0) ++ t ∷ [] = e ∙ ap (λ (us : List Lexeme). (made_tokens ms ++ (front ++ next ∷ [])) ++ us) some.1 ∙ sym (append_assoc (made_tokens ms ++ (front ++ next ∷ [])) some.0 (t ∷ [])) in
          shallow ms p front next rest some.0 grammar part (ends_in ts _ t t all).0 deep
    ]

pub over_token : (src : List ℕ) (at : ℕ) (z : State) (c : Count) (t : Lexeme) (y : State) → Progress src at z c → IsPiece src at (Token_piece t) → step z t ≡ Ok y → (IsTooDeep (from_here z.context y.context c) t.sort → ⊥)
    → Progress src t.span.end y (counted (from_here z.context y.context c) t.sort)
over_token src at z c t y p h e not =
    let q = parted src at z c p t y (steps p.ms p.ts z p.carries t y e) in
    let on : run (p.ts ++ t ∷ []) start ≡ Ok y = run_append p.ts (t ∷ []) start z p.ran ∙ ap (then_run (run []) t.span.start) e in
    record {
      ts = p.ts ++ t ∷ [];
      ms = q.ms;
      part = q.part ++ t ∷ [];
      cut = cut_lexeme src p.ts at t p.cut h;
      ran = on;
      carries = q.carries;
      splits = ap (λ (us : List Lexeme). us ++ t ∷ []) q.splits ∙ append_assoc (made_tokens q.ms) q.part (t ∷ []);
      count = ap (λ (d : Count). counted d t.sort) q.count ∙ sym (counted_push none q.part t);
      shallow = still_shallow p.ts t z y c p.shallow on q not;
    }

-- nothing before a place is too deep
pub shallow_before : (src : List ℕ) (at : ℕ) (z : State) (c : Count) → Progress src at z c → IsShallowBefore src at
shallow_before src at z c p p' h lt =
    let whole : Cut src ((made_tokens h.before ++ h.front) ++ h.next ∷ []) h.end = subst (λ (us : List Lexeme). Cut src us h.end) (sym (append_assoc (made_tokens h.before) h.front (h.next ∷ []))) h.cut in
    let r = before_token src p.ts at (made_tokens h.before ++ h.front) h.next h.end p.cut whole (omega (arith, lt, h.is)) in
    p.shallow h.before h.program h.front h.next h.rest r.0 h.grammar h.part (r.1 ∙ ap (λ (us : List Lexeme). us ++ r.0) (append_assoc (made_tokens h.before) h.front (h.next ∷ []))) h.deep

pub all_shallow : (src : List ℕ) (z : State) (c : Count) → Progress src (length src) z c → IsShallow src
all_shallow src z c p p' h =
    let whole : Cut src ((made_tokens h.before ++ h.front) ++ h.next ∷ []) h.end = subst (λ (us : List Lexeme). Cut src us h.end) (sym (append_assoc (made_tokens h.before) h.front (h.next ∷ []))) h.cut in
    shallow_before src (length src) z c p p' h (omega (arith, h.is, before_cut src [] h.end (made_tokens h.before ++ h.front) h.next whole, cut_in src ((made_tokens h.before ++ h.front) ++ h.next ∷ []) h.end whole))

pub step_is : (m : Mode) (d : Context) (ns : List Item) (k : List Frame) (t : Lexeme) → step (state m d ns k) t ≡ advance m t.sort t.span d ns k
unfolding step
step_is m d ns k t = refl

pub begins_text : (src : List ℕ) (at : ℕ) (z : State) (c : Count) → Progress src at z c → BeginsText src at
begins_text src at z c p = (p.ts, p.cut, carried_begins p.ms p.ts z p.carries)

stops_here : (src : List ℕ) (at : ℕ) (z : State) (c : Count) (t : Lexeme) (what : What) → Progress src at z c → IsPiece src at (Token_piece t) → step z t ≡ Err what → StopsAt src at what
stops_here src at z c t what p h e = record {
  front = p.ts;
  next = t;
  end = t.span.end;
  cut = cut_lexeme src p.ts at t p.cut h;
  is = sym (token_at src at t h);
  begins = carried_begins p.ms p.ts z p.carries;
  stuck = stuck_at p.ts z t what p.ran e;
  wanted = wanted_at p.ts z t what p.ran e;
}

deep_here : (src : List ℕ) (at : ℕ) (z : State) (c : Count) (t : Lexeme) (y : State) → Progress src at z c → IsPiece src at (Token_piece t) → step z t ≡ Ok y → IsTooDeep (from_here z.context y.context c) t.sort → IsDeepAt src at
deep_here src at z c t y p h e deep =
    let q = parted src at z c p t y (steps p.ms p.ts z p.carries t y e) in
    let f = filled q.ms (p.ts ++ t ∷ []) y q.carries in
    let all : p.ts ++ t ∷ [] ≡ made_tokens q.ms ++ (q.part ++ t ∷ []) = ap (λ (us : List Lexeme). us ++ t ∷ []) q.splits ∙ append_assoc (made_tokens q.ms) q.part (t ∷ []) in
    let local : part_of q.carries ≡ q.part ++ t ∷ [] = cancel (made_tokens q.ms) _ _ (sym (part_is q.ms (p.ts ++ t ∷ []) y q.carries) ∙ all) in
    record {
      before = q.ms;
      program = f.q;
      front = q.part;
      next = t;
      rest = f.rest;
      end = t.span.end;
      grammar = f.at;
      part = f.text ∙ ap (λ (us : List Lexeme). us ++ f.rest) local ∙ append_assoc q.part (t ∷ []) f.rest;
      cut = subst (λ (us : List Lexeme). Cut src us t.span.end) all (cut_lexeme src p.ts at t p.cut h);
      is = sym (token_at src at t h);
      deep = subst (λ (d : Count). IsTooDeep d t.sort) q.count deep;
    }

-- a token that is taken
pub taken : (src : List ℕ) (at : ℕ) (l : Code_mode) (o : Reader) (c : Count) (t : Lexeme) (m : Code_mode) (r : Reader) (new : Count) → Progress src at (state (mode l) (context o) (nodes o) (stack o)) c → IsPiece src at (Token_piece t)
    → Takes (Ok m) r new (context o) c t.sort (advance (mode l) t.sort t.span (context o) (nodes o) (stack o)) → Progress src t.span.end (state (mode m) (context r) (nodes r) (stack r)) new
taken src at l o c t m r new p h k =
    let y : State = state (mode m) (context r) (nodes r) (stack r) in
    subst (λ (d : Count). Progress src t.span.end y d) (sym k.2) (over_token src at (state (mode l) (context o) (nodes o) (stack o)) c t y p h (step_is (mode l) (context o) (nodes o) (stack o) t ∙ k.0) k.1)

-- what is answered of a text that is refused
abbrev pub Refuses : List ℕ → SyntaxFault → Type 0
Refuses src f = IsFault src f × BeginsText src (place f) × IsShallowBefore src (place f)

-- a token that is refused
pub token_refused : (src : List ℕ) (at : ℕ) (l : Code_mode) (o : Reader) (c : Count) (t : Lexeme) (e : StepError) (r : Reader) (new : Count) → Progress src at (state (mode l) (context o) (nodes o) (stack o)) c → IsPiece src at (Token_piece t)
    → Takes (Err e) r new (context o) c t.sort (advance (mode l) t.sort t.span (context o) (nodes o) (stack o)) → IfFault (Err (fault_by e at)) (Refuses src)
token_refused src at l o c t errors.Memory r new p h k = tt
token_refused src at l o c t errors.Deep r new p h k =
    let z : State = state (mode l) (context o) (nodes o) (stack o) in
    (deep_here src at z c t k.0 p h (step_is (mode l) (context o) (nodes o) (stack o) t ∙ k.1) k.2, begins_text src at z c p, shallow_before src at z c p)
token_refused src at l o c t (errors.Wanted what) r new p h k =
    let z : State = state (mode l) (context o) (nodes o) (stack o) in
    (inl (stops_here src at z c t what p h (step_is (mode l) (context o) (nodes o) (stack o) t ∙ k)), begins_text src at z c p, shallow_before src at z c p)

-- where no token can be read
pub unread_refused : (src : List ℕ) (at : ℕ) (z : State) (c : Count) (why : Unread) → Progress src at z c → IsPiece src at (Bad why) → IfFault (Err (fault_at why at)) (Refuses src)
unread_refused src at z c unread.Character p h = (((p.ts, p.cut), h), begins_text src at z c p, shallow_before src at z c p)
unread_refused src at z c (unread.Number end) p h = (((p.ts, p.cut), h), begins_text src at z c p, shallow_before src at z c p)
unread_refused src at z c unread.Comment p h = (((p.ts, p.cut), h), begins_text src at z c p, shallow_before src at z c p)

cons_head : (d x : Defined) (ds xs : List Defined) → d ∷ ds ≡ x ∷ xs → d ≡ x
cons_head d x ds xs e = cc

cons_tail : (d x : Defined) (ds xs : List Defined) → d ∷ ds ≡ x ∷ xs → ds ≡ xs
cons_tail d x ds xs e = cc

are_definitions : (ds : List Definition) (es : List Define) → map definition ds ≡ map posted_define es → AreDefinitions ds es
are_definitions [] [] e = tt
are_definitions [] (x ∷ es) e = absurd cc
are_definitions (d ∷ ds) [] e = absurd cc
are_definitions (d ∷ ds) (x ∷ es) e =
    let one : definition d ≡ posted_define x = cons_head _ _ _ _ e in
    (record { name = ap (λ (q : Defined). q.name) one; parameters = ap (λ (q : Defined). q.parameters) one; body = ap (λ (q : Defined). q.body) one }, are_definitions ds es (cons_tail _ _ _ _ e))

pub is_ast : (ast : Ast) (s : Source) → ends ast ≡ posted s → IsAst ast s
is_ast ast s e = record { definitions = are_definitions ast.definitions.items s.definitions (ap (λ (q : Posted). q.definitions) e); main = ap (λ (q : Posted). q.main) e }

-- the text's end
pub ended_found : (src : List ℕ) (z : State) (c : Count) (ast : Ast) → Progress src (length src) z c → Ends (Ok ast) (finish z) → ((s : Source) × IsAst ast s × SpellsTokens src s) × IsShallow src
ended_found src z c ast p h =
    let f = found p.ts z (ends ast) p.ran h in
    ((f.s, is_ast ast f.s (sym f.is), (p.ts, p.cut, f.spells)), all_shallow src z c p)

pub ended_refused : (src : List ℕ) (z : State) (c : Count) (e : StepError) → Progress src (length src) z c → Ends (Err e) (finish z) → IfFault (Err (fault_by e (length src))) (Refuses src)
ended_refused src z c errors.Memory p h = tt
ended_refused src z c errors.Deep p h = absurd h
ended_refused src z c (errors.Wanted what) p h =
    (inr (record { front = p.ts; cut = p.cut; is = refl; begins = carried_begins p.ms p.ts z p.carries; stuck = stuck_end p.ts z what p.ran h; wanted = wanted_end p.ts z what p.ran h }), begins_text src (length src) z c p, shallow_before src (length src) z c p)

-- where the text is at its end
pub at_end : (src : List ℕ) (at : ℕ) (z : State) (c : Count) → at ≤ length src → length src ≤ at → Progress src at z c → Progress src (length src) z c
at_end src at z c high low p = let same : at ≡ length src = omega (arith, high, low) in subst (λ (n : ℕ). Progress src n z c) same p

pub refused_at_end : (src : List ℕ) (at : ℕ) (z : State) (c : Count) (e : StepError) → at ≤ length src → length src ≤ at → Progress src at z c → Ends (Err e) (finish z) → IfFault (Err (fault_by e at)) (Refuses src)
refused_at_end src at z c e high low p h =
    let same : length src ≡ at = omega (arith, high, low) in
    subst (λ (n : ℕ). IfFault (Err (fault_by e n)) (Refuses src)) same (ended_refused src z c e (at_end src at z c high low p) h)

pub begun : (src : List ℕ) (d : Context) (ns : List Item) (k : List Frame) (c : Count) → d ≡ record { definitions = []; parameters = [] } → ns ≡ [] → k ≡ [] → c ≡ none → Progress src 0 (state Want d ns k) c
begun src d ns k c a b e f = rw (a, b, e, f) (nothing_yet src)
