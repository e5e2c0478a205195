-- What is read is a program of the grammar, and what has been read so far begins one.
use Rattle.std.specs.Prelude.{◌&&◌}
use Rattle.std.proofs.Common.{◌≡◌, Bool, true, false, List, [], ◌∷◌, ◌++◌, map, Result, Ok, Err, refl, sym, ap, subst, ◌∙◌, append_assoc, arith}
use Rattle.std.proofs.lemmas.List.{append-nil}
use Rattle.orc_lex.specs.declared.token.Span.{Span}
use Rattle.orc_lex.specs.declared.token.Plain.TheVariants as plains
use Rattle.orc_lex.specs.declared.token.What.{What}
use Rattle.orc_lex.specs.Tokens.{Arrow, Open, Close, Assign, Def, Lexeme, token}
use Rattle.orc_syntax.specs.Tree.{Label, Tree, post, Source}
use Rattle.orc_syntax.specs.Grammar.{Sign, Double, Writing, plain, name, call, brackets, operation, binding, Parameter as Other_parameter, Parameters, without, given, Head, Program, main, define, word, sign_tokens, link, tokens, parameter_tokens, head_tokens, program_tokens, tree, level, left_level, ends_in_name, begins_in_bracket, program_begins_in_bracket, IsAt, AreArguments, IsProgram, Spells, Begins, Made, made_tokens, behind_all, first_part, source, definitions, main_of}
use Rattle.orc_syntax.specs.Machine.{Defined, State, reduced, reduce, step, Refusal, then_run, run, Posted, whole, finish, start}
use Rattle.orc_syntax.proofs.Complete.{operand}
use Rattle.orc_syntax.proofs.Programs.{context_of, one_made, posted_define, posted, reads}
use Rattle.orc_syntax.proofs.Running.{run_append}
use Rattle.orc_syntax.proofs.Sound.{Crumb, before, bracket, arguments, bound, within, body, Begun, val_word, val_name, def_word, def_name, def_open, def_item, def_comma, def_closed, Spot, want, opened, named, have, signed, variable, heads, made, frames, crumb_tokens, spelled, held, params_of, begun_tokens, spot_tokens, state_of, Clear, clear_false, AreMade, IsFine, IsAtom, IsFirst, IsBegun, IsSpot, Carries, IsBare, Asks, asks_of, asks_atom, reduces}
use Rattle.orc_syntax.proofs.Steps.{with_last, last_tokens, last_fine}
use Rattle.orc_syntax.proofs.Heads.{others_push, carries}

-- a program behind definitions
behind_is : (ms : List Made) (p : Program) → AreMade ms → Clear ms [] (program_begins_in_bracket p) → IsProgram p → IsProgram (behind_all ms p)
behind_is [] p whole clear h = h
behind_is (m ∷ ms) p whole clear h = behind_is ms (define m.head m.body p) whole.1 (clear_false ms []) (whole.0, clear, h)

pub behind_tokens : (ms : List Made) (p : Program) → program_tokens (behind_all ms p) ≡ made_tokens ms ++ program_tokens p
behind_tokens [] p = refl
behind_tokens (m ∷ ms) p = behind_tokens ms (define m.head m.body p) ∙ simp append_assoc

behind_definitions : (ms : List Made) (p : Program) → map posted_define (definitions (behind_all ms p)) ≡ made ms ++ map posted_define (definitions p)
behind_definitions [] p = refl
behind_definitions (m ∷ ms) p = behind_definitions ms (define m.head m.body p) ∙ sym (append_assoc (made ms) (one_made m.head m.body ∷ []) (map posted_define (definitions p)))

behind_main : (ms : List Made) (p : Program) → main_of (behind_all ms p) ≡ main_of p
behind_main [] p = refl
behind_main (m ∷ ms) p = behind_main ms (define m.head m.body p)

-- the tokens behind the first part
abbrev pub later : Program → List Lexeme
later (main w) = []
later (define h b rest) = program_tokens rest

pub first_later : (p : Program) → program_tokens p ≡ first_part p ++ later p
first_later (main w) = sym (append-nil (tokens w))
first_later (define h b rest) = sym (append_assoc (head_tokens h) (tokens b) (program_tokens rest))

-- what has been written of the definition or main expression that is read
pub spelled_local : (ms : List Made) (cs : List Crumb) → spelled ms cs ≡ made_tokens ms ++ spelled [] cs
spelled_local ms [] = sym (append-nil (made_tokens ms))
spelled_local ms (c ∷ cs) = ap (λ (us : List Lexeme). us ++ crumb_tokens c) (spelled_local ms cs) ∙ append_assoc (made_tokens ms) (spelled [] cs) (crumb_tokens c)

cons-tail : (t : Lexeme) (a b : List Lexeme) → t ∷ a ≡ t ∷ b → a ≡ b
cons-tail t a b e = cc

pub cancel : (front a b : List Lexeme) → front ++ a ≡ front ++ b → a ≡ b
cancel [] a b e = e
cancel (t ∷ front) a b e = cancel front a b (cons-tail t (front ++ a) (front ++ b) e)

local_text : (ms : List Made) (cs ds : List Crumb) (us vs : List Lexeme) → spelled ms cs ++ us ≡ spelled ms ds ++ vs → spelled [] cs ++ us ≡ spelled [] ds ++ vs
local_text ms cs ds us vs e =
    cancel (made_tokens ms) _ _
    (sym (append_assoc (made_tokens ms) (spelled [] cs) us) ∙ ap (λ (ws : List Lexeme). ws ++ us) (sym (spelled_local ms cs)) ∙ e ∙ ap (λ (ws : List Lexeme). ws ++ vs) (spelled_local ms ds) ∙ append_assoc (made_tokens ms) (spelled [] ds) vs)

-- a program whose first part behind these definitions begins so
pub record Fills (ms : List Made) (us : List Lexeme) : Type 0 where
  pub rest : List Lexeme
  pub q : Program
  pub at : IsProgram (behind_all ms q)
  pub text : first_part q ≡ us ++ rest

abbrev somewhere : Span
somewhere = record { start = 0; end = 0 }

abbrev any : Writing
any = plain plains.Signal somewhere

abbrev any_name : Label
any_name = record { text = []; span = somewhere }

Fills-more : (ms : List Made) (ts us rest : List Lexeme) → us ≡ ts ++ rest → Fills ms us → Fills ms ts
Fills-more ms ts us rest e f = record { rest = rest ++ f.rest; q = f.q; at = f.at; text = f.text ∙ ap (λ (vs : List Lexeme). vs ++ f.rest) e ∙ append_assoc ts rest f.rest }

and_false : (b : Bool) → (b && false) ≡ false
and_false true = refl
and_false false = refl

fills : (ms : List Made) (cs : List Crumb) (w : Writing) → AreMade ms → IsFine ms cs → Asks ms cs w → Clear ms cs (begins_in_bracket w) → Fills ms (spelled [] cs ++ tokens w)
fills ms [] w whole fine asks clear = record { rest = []; q = main w; at = behind_is ms (main w) whole clear asks.0; text = sym (append-nil (tokens w)) }
fills ms (before sign l ∷ cs) w whole fine asks clear =
    let v : Writing = operation sign l w in
    let at_level : IsAt (level (link sign)) v = (omega arith, fine.0, asks) in
    Fills-more ms _ (spelled [] cs ++ tokens v) [] (simp (append_assoc, append-nil)) (fills ms cs v whole fine.3 (asks_of ms cs v (level (link sign)) fine.1 at_level fine.2) fine.2)
fills ms (bracket o ∷ cs) w whole fine asks clear =
    let v : Writing = brackets o w somewhere in
    Fills-more ms _ (spelled [] cs ++ tokens v) (token Close somewhere ∷ []) (simp append_assoc) (fills ms cs v whole fine.1 (asks_atom ms cs v (λ n. asks) fine.0) fine.0)
fills ms (arguments x o gs ∷ cs) w whole fine asks clear =
    let v : Writing = call x o (with_last gs w) somewhere in
    let ats : AreArguments (with_last gs w) = last_fine gs w fine.0 asks in
    let e : spelled [] cs ++ tokens v ≡ (spelled [] (arguments x o gs ∷ cs) ++ tokens w) ++ token Close somewhere ∷ [] =
    ap (λ (us : List Lexeme). spelled [] cs ++ (word x ∷ token Open o ∷ (us ++ token Close somewhere ∷ []))) (last_tokens gs w) ∙ simp append_assoc in
    Fills-more ms _ (spelled [] cs ++ tokens v) (token Close somewhere ∷ []) e (fills ms cs v whole fine.1 (asks_atom ms cs v (λ n. ats) (clear_false ms cs)) (clear_false ms cs))
fills ms (bound v x q ∷ cs) w whole fine asks clear =
    let u : Writing = binding v x q w any in
    let at_zero : IsAt 0 u = (omega arith, asks, tt, and_false (ends_in_name w)) in
    Fills-more ms _ (spelled [] cs ++ tokens u) (tokens any) (simp append_assoc) (fills ms cs u whole fine.1 (asks_of ms cs u 0 fine.0 at_zero (clear_false ms cs)) (clear_false ms cs))
fills ms (within v x q g ∷ cs) w whole fine asks clear =
    let u : Writing = binding v x q g w in
    let at_zero : IsAt 0 u = (omega arith, fine.0, asks.0, asks.1) in
    Fills-more ms _ (spelled [] cs ++ tokens u) [] (simp (append_assoc, append-nil)) (fills ms cs u whole fine.2 (asks_of ms cs u 0 fine.1 at_zero (clear_false ms cs)) (clear_false ms cs))
fills ms (body h ∷ []) w whole fine asks clear =
    record { rest = []; q = define h w (main any); at = behind_is ms (define h w (main any)) whole (clear_false ms []) (asks, and_false (ends_in_name w), tt); text = sym (append-nil _) }
fills ms (body h ∷ c ∷ cs) w whole fine asks clear = absurd fine.0

-- an operator goes on with anything
fills_behind : (sign : Sign) (ts rest : List Lexeme) (ms : List Made) (w : Writing) (cs : List Crumb) → AreMade ms → IsAtom w → Clear ms cs (begins_in_bracket w) → IsFine ms cs → ts ++ rest ≡ (spelled [] cs ++ tokens w) ++ sign_tokens sign → Fills ms ts
fills_behind sign ts rest ms w cs whole atom clear fine text =
    let r = reduces ms (left_level (link sign)) cs w fine (asks_atom ms cs w atom clear) clear (atom (left_level (link sign))) in
    let f = fills ms (before sign r.w' ∷ r.rest) any whole (r.at_m, r.fits (link sign) refl, r.clear, r.fine) tt tt in
    let local : spelled [] r.rest ++ tokens r.w' ≡ spelled [] cs ++ tokens w = local_text ms r.rest cs (tokens r.w') (tokens w) r.text in
    let e : spelled [] (before sign r.w' ∷ r.rest) ++ tokens any ≡ ts ++ (rest ++ tokens any) =
    ap (λ (us : List Lexeme). us ++ tokens any) (sym (append_assoc (spelled [] r.rest) (tokens r.w') (sign_tokens sign)) ∙ ap (λ (us : List Lexeme). us ++ sign_tokens sign) local ∙ sym text) ∙ append_assoc ts rest _ in
    Fills-more ms ts _ _ e f

-- a head goes on with anything
fills_head : (ms : List Made) (h : Head) (us rest : List Lexeme) → AreMade ms → head_tokens h ≡ us ++ rest → Fills ms us
fills_head ms h us rest whole e =
    let q : Program = define h any (main any) in
    record { rest = rest ++ tokens any; q = q; at = behind_is ms q whole (clear_false ms []) (tt, refl, tt); text = ap (λ (vs : List Lexeme). vs ++ tokens any) e ∙ append_assoc us rest (tokens any) }

abbrev head_of : Span → Label → Span → Parameters → Span → Head
head_of d f o ps c = record { keyword = d; name = f; opening = o; parameters = ps; closing = c; equals = somewhere }

fills_begun : (ms : List Made) (b : Begun) (cs : List Crumb) → AreMade ms → IsFine ms cs → IsBegun b cs → Fills ms (spelled [] cs ++ begun_tokens b)
fills_begun ms (val_word v) cs whole fine h =
    let u : Writing = binding v any_name somewhere any any in
    Fills-more ms _ (spelled [] cs ++ tokens u) (word any_name ∷ token Assign somewhere ∷ (tokens any ++ tokens any)) (sym (append_assoc (spelled [] cs) _ _)) (fills ms cs u whole fine (asks_of ms cs u 0 h (omega arith, tt, tt, refl) (clear_false ms cs)) (clear_false ms cs))
fills_begun ms (val_name v x) cs whole fine h =
    let u : Writing = binding v x somewhere any any in
    Fills-more ms _ (spelled [] cs ++ tokens u) (token Assign somewhere ∷ (tokens any ++ tokens any)) (sym (append_assoc (spelled [] cs) _ _)) (fills ms cs u whole fine (asks_of ms cs u 0 h (omega arith, tt, tt, refl) (clear_false ms cs)) (clear_false ms cs))
fills_begun ms (def_word d) [] whole fine h = fills_head ms (head_of d any_name somewhere without somewhere) _ (word any_name ∷ token Open somewhere ∷ token Close somewhere ∷ token Assign somewhere ∷ []) whole refl
fills_begun ms (def_name d f) [] whole fine h = fills_head ms (head_of d f somewhere without somewhere) _ (token Open somewhere ∷ token Close somewhere ∷ token Assign somewhere ∷ []) whole refl
fills_begun ms (def_open d f o) [] whole fine h = fills_head ms (head_of d f o without somewhere) _ (token Close somewhere ∷ token Assign somewhere ∷ []) whole refl
fills_begun ms (def_item d f o a ps) [] whole fine h = fills_head ms (head_of d f o (given a ps) somewhere) _ (token Close somewhere ∷ token Assign somewhere ∷ []) whole refl
fills_begun ms (def_comma d f o a ps comma) [] whole fine h =
    let p : Other_parameter = record { comma = comma; name = any_name } in
    fills_head ms (head_of d f o (given a (ps ++ p ∷ [])) somewhere) _ (word any_name ∷ token Close somewhere ∷ token Assign somewhere ∷ []) whole
    (ap (λ (us : List Lexeme). token Def d ∷ word f ∷ token Open o ∷ word a ∷ (us ++ token Close somewhere ∷ token Assign somewhere ∷ [])) (others_push ps p) ∙ simp append_assoc)
fills_begun ms (def_closed d f o ps c) [] whole fine h = fills_head ms (head_of d f o ps c) _ (token Assign somewhere ∷ []) whole (sym (ap (λ (us : List Lexeme). token Def d ∷ word f ∷ token Open o ∷ us) (append_assoc (parameter_tokens ps) _ _)))
fills_begun ms (def_word d) (k ∷ cs) whole fine h = absurd h
fills_begun ms (def_name d f) (k ∷ cs) whole fine h = absurd h
fills_begun ms (def_open d f o) (k ∷ cs) whole fine h = absurd h
fills_begun ms (def_item d f o a ps) (k ∷ cs) whole fine h = absurd h
fills_begun ms (def_comma d f o a ps comma) (k ∷ cs) whole fine h = absurd h
fills_begun ms (def_closed d f o ps c) (k ∷ cs) whole fine h = absurd h

first_fills : (ms : List Made) (cs : List Crumb) → AreMade ms → IsFine ms cs → IsFirst cs → Fills ms (spelled [] cs ++ tokens any)
first_fills ms cs whole fine f = fills ms cs any whole fine (asks_atom ms cs any (λ n. tt) (clear_false ms cs)) (clear_false ms cs)

fills_spot : (ms : List Made) (spot : Spot) (cs : List Crumb) → AreMade ms → IsFine ms cs → IsSpot ms spot cs → Fills ms (spelled [] cs ++ spot_tokens spot)
fills_spot ms want cs whole fine h = Fills-more ms _ _ (tokens any) (ap (λ (us : List Lexeme). us ++ tokens any) (sym (append-nil _))) (fills ms cs any whole fine (asks_atom ms cs any (λ n. tt) (clear_false ms cs)) (clear_false ms cs))
fills_spot ms opened cs whole fine h = Fills-more ms _ _ (tokens any) (ap (λ (us : List Lexeme). us ++ tokens any) (sym (append-nil _))) (first_fills ms cs whole fine h)
fills_spot ms (named x) cs whole fine h = fills ms cs (name x) whole fine (asks_atom ms cs (name x) (λ n. tt) (clear_false ms cs)) (clear_false ms cs)
fills_spot ms (have w) cs whole fine h = fills ms cs w whole fine (asks_atom ms cs w h.0 h.1) h.1
fills_spot ms (signed s p w) cs whole fine h =
    fills_behind (Double s p any_name somewhere) _ (word any_name ∷ token (Arrow s) somewhere ∷ []) ms w cs whole h.0 h.1 fine (simp append_assoc)
fills_spot ms (variable s p w x) cs whole fine h =
    fills_behind (Double s p x somewhere) _ (token (Arrow s) somewhere ∷ []) ms w cs whole h.0 h.1 fine (simp append_assoc)
fills_spot ms (heads b) cs whole fine h = fills_begun ms b cs whole fine h

-- what has been written of the part that is read
abbrev pub part_of : {ms : List Made} {ts : List Lexeme} {z : State} → Carries ms ts z → List Lexeme
part_of c = spelled [] c.crumbs ++ spot_tokens c.spot

pub part_is : (ms : List Made) (ts : List Lexeme) (z : State) (c : Carries ms ts z) → ts ≡ made_tokens ms ++ part_of c
part_is ms ts z c = c.text ∙ ap (λ (us : List Lexeme). us ++ spot_tokens c.spot) (spelled_local ms c.crumbs) ∙ append_assoc (made_tokens ms) (spelled [] c.crumbs) (spot_tokens c.spot)

pub filled : (ms : List Made) (ts : List Lexeme) (z : State) (c : Carries ms ts z) → Fills ms (part_of c)
filled ms ts z c = fills_spot ms c.spot c.crumbs c.whole c.fine c.stands

begins_by : (ms : List Made) (ts : List Lexeme) (us : List Lexeme) → ts ≡ made_tokens ms ++ us → Fills ms us → Begins ts
begins_by ms ts us e f =
    let regroup : made_tokens ms ++ ((us ++ f.rest) ++ later f.q) ≡ (made_tokens ms ++ us) ++ (f.rest ++ later f.q) = simp append_assoc in
    let same : program_tokens (behind_all ms f.q) ≡ ts ++ (f.rest ++ later f.q) =
    behind_tokens ms f.q ∙ ap (λ (vs : List Lexeme). made_tokens ms ++ vs) (first_later f.q ∙ ap (λ (vs : List Lexeme). vs ++ later f.q) f.text) ∙ regroup ∙ ap (λ (vs : List Lexeme). vs ++ (f.rest ++ later f.q)) (sym e) in
    (f.rest ++ later f.q, source (behind_all ms f.q), (behind_all ms f.q, f.at, same, refl))

pub carried_begins : (ms : List Made) (ts : List Lexeme) (z : State) → Carries ms ts z → Begins ts
carried_begins ms ts z c = begins_by ms ts (part_of c) (part_is ms ts z c) (filled ms ts z c)

-- what has been read so far begins a program of the grammar
pub viable : (ts : List Lexeme) (z : State) → run ts start ≡ Ok z → Begins ts
viable ts z e = let c = carries ts z e in carried_begins c.0 ts z c.1

-- what the tokens spell, with its nodes
pub record Found (ts : List Lexeme) (r : Posted) : Type 0 where
  pub s : Source
  pub spells : Spells ts s
  pub is : posted s ≡ r

abbrev kept_posted : Posted → Result Posted What
kept_posted r = Ok r

got : (r q : Posted) → kept_posted r ≡ kept_posted q → r ≡ q
got r q e = cc

-- what ends with nothing that waits is whole
ends_whole : (ms : List Made) (w : Writing) (cs : List Crumb) (r : Posted) → AreMade ms → IsBare cs → IsAt 0 w → Clear ms cs (begins_in_bracket w) → whole (context_of (made ms) (params_of cs)) (reduced (operand w) (held cs ++ post (tree w)) (frames cs)) ≡ Ok r → Found (spelled ms cs ++ tokens w) r
ends_whole ms w [] r all bare h clear e =
    let p : Program = behind_all ms (main w) in
    record {
      s = source p;
      spells = (p, behind_is ms (main w) all clear h, behind_tokens ms (main w), refl);
      is = ap (λ (ds : List Defined). record { definitions = ds; main = post (main_of p) }) (behind_definitions ms (main w) ∙ append-nil (made ms)) ∙ ap (λ (t : Tree). record { definitions = made ms; main = post t }) (behind_main ms (main w)) ∙ got _ r e;
    }
ends_whole ms w (before sign l ∷ cs) r all bare h clear e = absurd bare
ends_whole ms w (within v x q g ∷ cs) r all bare h clear e = absurd bare
ends_whole ms w (bracket o ∷ cs) r all bare h clear e = absurd cc
ends_whole ms w (arguments x o gs ∷ cs) r all bare h clear e = absurd cc
ends_whole ms w (bound v x q ∷ cs) r all bare h clear e = absurd cc
ends_whole ms w (body k ∷ cs) r all bare h clear e = absurd cc

ends_here : (ms : List Made) (ts : List Lexeme) (w : Writing) (cs : List Crumb) (r : Posted) → AreMade ms → IsAtom w → Clear ms cs (begins_in_bracket w) → IsFine ms cs → ts ≡ spelled ms cs ++ tokens w
    → whole (context_of (made ms) (params_of cs)) (reduce 0 (operand w) (held cs ++ post (tree w)) (frames cs)) ≡ Ok r → Found ts r
ends_here ms ts w cs r all atom clear fine text e =
    let d = reduces ms 0 cs w fine (asks_atom ms cs w atom clear) clear (atom 0) in
    subst (λ (us : List Lexeme). Found us r) (d.text ∙ sym text)
    (ends_whole ms d.w' d.rest r all (d.bare refl) d.at_m d.clear
    (ap (λ (ps : List Label). whole (context_of (made ms) ps) (reduced (operand d.w') (held d.rest ++ post (tree d.w')) (frames d.rest))) d.params ∙ ap (whole (context_of (made ms) (params_of cs))) (sym d.gives) ∙ e))

finishes : (ms : List Made) (ts : List Lexeme) (spot : Spot) (cs : List Crumb) (r : Posted) → AreMade ms → IsFine ms cs → IsSpot ms spot cs → ts ≡ spelled ms cs ++ spot_tokens spot → finish (state_of ms spot cs) ≡ Ok r → Found ts r
finishes ms ts want cs r all fine h text e = absurd cc
finishes ms ts opened cs r all fine h text e = absurd cc
finishes ms ts (named x) cs r all fine h text e = ends_here ms ts (name x) cs r all (λ n. tt) (clear_false ms cs) fine text e
finishes ms ts (have w) cs r all fine h text e = ends_here ms ts w cs r all h.0 h.1 fine text e
finishes ms ts (signed s p w) cs r all fine h text e = absurd cc
finishes ms ts (variable s p w x) cs r all fine h text e = absurd cc
finishes ms ts (heads b) cs r all fine h text e = absurd cc

-- what is read is what the tokens spell
pub found : (ts : List Lexeme) (z : State) (r : Posted) → run ts start ≡ Ok z → finish z ≡ Ok r → Found ts r
found ts z r e f =
    let c = carries ts z e in
    finishes c.0 ts c.1.spot c.1.crumbs r c.1.whole c.1.fine c.1.stands c.1.text (ap finish (sym c.1.is) ∙ f)

abbrev gone : State → Result State Refusal
gone s = Ok s

abbrev refusal : Refusal → Result State Refusal
refusal f = Err f

abbrev not_whole : What → Result Posted What
not_whole w = Err w

ok_err : (z : State) (f : Refusal) → gone z ≡ refusal f → ⊥
ok_err z f e = cc

ok_not : (r : Posted) (w : What) → kept_posted r ≡ not_whole w → ⊥
ok_not r w e = cc

same_state : (s z : State) → gone s ≡ gone z → s ≡ z
same_state s z e = cc

-- with a token that is refused nothing begins
pub stuck_at : (ts : List Lexeme) (s : State) (next : Lexeme) (what : What) → run ts start ≡ Ok s → step s next ≡ Err what → Begins (ts ++ next ∷ []) → ⊥
stuck_at ts s next what h e begins =
    let us : List Lexeme = begins.0 in
    let good = reads ((ts ++ next ∷ []) ++ us) begins.1 begins.2 in
    let split : run ((ts ++ next ∷ []) ++ us) start ≡ run (next ∷ us) s = ap (λ (vs : List Lexeme). run vs start) (append_assoc ts (next ∷ []) us) ∙ run_append ts (next ∷ us) _ _ h in
    let bad : run (next ∷ us) s ≡ Err (next.span.start, what) = ap (then_run (run us) next.span.start) e in
    ok_err good.z (next.span.start, what) (sym good.runs ∙ split ∙ bad)

-- where something is wanted at the end, nothing is spelled
pub stuck_end : (ts : List Lexeme) (s : State) (what : What) → run ts start ≡ Ok s → finish s ≡ Err what → (t : Source) → Spells ts t → ⊥
stuck_end ts s what h e t spells =
    let good = reads ts t spells in
    ok_not (posted t) what (sym good.ends ∙ ap finish (same_state good.z s (sym good.runs ∙ h)) ∙ e)
