-- One more token of a head, as it was written; and whole runs.
use Rattle.std.proofs.Common.{◌≡◌, true, List, [], ◌∷◌, ◌++◌, Result, Ok, refl, sym, ap, subst, ◌∙◌, append_assoc, inl, inr}
use Rattle.std.proofs.lemmas.List.{append-nil}
use Rattle.orc_lex.specs.declared.token.Span.{Span}
use Rattle.orc_lex.specs.Tokens.{Sort, Word, One, Join, Arrow, Open, Close, Comma, Assign, Def, Val, Lexeme, token}
use Rattle.orc_syntax.specs.Tree.{Label}
use Rattle.orc_syntax.specs.Grammar.{Parameter as Other_parameter, Parameters, without, given, word, other_tokens, parameter_tokens, names_of, Made, made_tokens}
use Rattle.orc_syntax.specs.Machine.{ValWord, ValName, DefWord, DefName, Opened, Parameter, Separated, Closed, Heads, State, state, head, advance, step, Refusal, run, whole, start}
use Rattle.orc_syntax.proofs.Complete.{Accepts}
use Rattle.orc_syntax.proofs.Programs.{context_of}
use Rattle.orc_syntax.proofs.Running.{then_ok}
use Rattle.orc_syntax.proofs.Sound.{Crumb, bound, body, Begun, val_word, val_name, def_word, def_name, def_open, def_item, def_comma, def_closed, Spot, want, opened, named, have, signed, variable, heads, made, frames, spelled, held, params_of, heading_of, begun_tokens, begun_params, mode_of, spot_tokens, nodes_at, params_at, Clear, AreMade, IsFine, IsBegun, IsSpot, Carries}
use Rattle.orc_syntax.proofs.Steps.{Goes, done_is, all_open, begins, goes_on, names, firsts, binds, seconds}

val_words : (v : Span) (ts : List Lexeme) (ms : List Made) (cs : List Crumb) → AreMade ms → IsFine ms cs → Accepts 0 (frames cs) → ts ≡ spelled ms cs ++ begun_tokens (val_word v)
    → (sort : Sort) (at : Span) (z : State) → head (ValWord v.start) sort at (context_of (made ms) (params_of cs)) (held cs) (frames cs) ≡ Ok z → Carries ms (ts ++ token sort at ∷ []) z
val_words v ts ms cs whole fine acc text (Word y) at z e = record { spot = heads (val_name v (record { text = y; span = at })); crumbs = cs; whole = whole; fine = fine; stands = acc; is = sym (done_is _ z e); text = ap (λ (us : List Lexeme). us ++ token (Word y) at ∷ []) text ∙ append_assoc (spelled ms cs) _ _ }
val_words v ts ms cs whole fine acc text (One p) at z e = absurd cc
val_words v ts ms cs whole fine acc text (Join j) at z e = absurd cc
val_words v ts ms cs whole fine acc text (Arrow s) at z e = absurd cc
val_words v ts ms cs whole fine acc text Open at z e = absurd cc
val_words v ts ms cs whole fine acc text Close at z e = absurd cc
val_words v ts ms cs whole fine acc text Comma at z e = absurd cc
val_words v ts ms cs whole fine acc text Assign at z e = absurd cc
val_words v ts ms cs whole fine acc text Def at z e = absurd cc
val_words v ts ms cs whole fine acc text Val at z e = absurd cc

val_names : (v : Span) (x : Label) (ts : List Lexeme) (ms : List Made) (cs : List Crumb) → AreMade ms → IsFine ms cs → Accepts 0 (frames cs) → ts ≡ spelled ms cs ++ begun_tokens (val_name v x)
    → (sort : Sort) (at : Span) (z : State) → head (ValName v.start x) sort at (context_of (made ms) (params_of cs)) (held cs) (frames cs) ≡ Ok z → Carries ms (ts ++ token sort at ∷ []) z
val_names v x ts ms cs whole fine acc text Assign at z e = record { spot = want; crumbs = bound v x at ∷ cs; whole = whole; fine = (acc, fine); stands = tt; is = sym (done_is _ z e); text = ap (λ (us : List Lexeme). us ++ token Assign at ∷ []) text ∙ append_assoc (spelled ms cs) _ _ ∙ sym (append-nil _) }
val_names v x ts ms cs whole fine acc text (Word y) at z e = absurd cc
val_names v x ts ms cs whole fine acc text (One p) at z e = absurd cc
val_names v x ts ms cs whole fine acc text (Join j) at z e = absurd cc
val_names v x ts ms cs whole fine acc text (Arrow s) at z e = absurd cc
val_names v x ts ms cs whole fine acc text Open at z e = absurd cc
val_names v x ts ms cs whole fine acc text Close at z e = absurd cc
val_names v x ts ms cs whole fine acc text Comma at z e = absurd cc
val_names v x ts ms cs whole fine acc text Def at z e = absurd cc
val_names v x ts ms cs whole fine acc text Val at z e = absurd cc

def_words : (d : Span) (ts : List Lexeme) (ms : List Made) → AreMade ms → ts ≡ made_tokens ms ++ begun_tokens (def_word d)
    → (sort : Sort) (at : Span) (z : State) → head (DefWord) sort at (context_of (made ms) (begun_params (def_word d) [])) [] [] ≡ Ok z → Carries ms (ts ++ token sort at ∷ []) z
def_words d ts ms whole text (Word y) at z e = record { spot = heads (def_name d (record { text = y; span = at })); crumbs = []; whole = whole; fine = tt; stands = tt; is = sym (done_is _ z e); text = ap (λ (us : List Lexeme). us ++ token (Word y) at ∷ []) text ∙ append_assoc (made_tokens ms) _ _ }
def_words d ts ms whole text (One p) at z e = absurd cc
def_words d ts ms whole text (Join j) at z e = absurd cc
def_words d ts ms whole text (Arrow s) at z e = absurd cc
def_words d ts ms whole text Open at z e = absurd cc
def_words d ts ms whole text Close at z e = absurd cc
def_words d ts ms whole text Comma at z e = absurd cc
def_words d ts ms whole text Assign at z e = absurd cc
def_words d ts ms whole text Def at z e = absurd cc
def_words d ts ms whole text Val at z e = absurd cc

def_names : (d : Span) (f : Label) (ts : List Lexeme) (ms : List Made) → AreMade ms → ts ≡ made_tokens ms ++ begun_tokens (def_name d f)
    → (sort : Sort) (at : Span) (z : State) → head (DefName f) sort at (context_of (made ms) (begun_params (def_name d f) [])) [] [] ≡ Ok z → Carries ms (ts ++ token sort at ∷ []) z
def_names d f ts ms whole text (Word y) at z e = absurd cc
def_names d f ts ms whole text (One p) at z e = absurd cc
def_names d f ts ms whole text (Join j) at z e = absurd cc
def_names d f ts ms whole text (Arrow s) at z e = absurd cc
def_names d f ts ms whole text Open at z e = record { spot = heads (def_open d f at); crumbs = []; whole = whole; fine = tt; stands = tt; is = sym (done_is _ z e); text = ap (λ (us : List Lexeme). us ++ token Open at ∷ []) text ∙ append_assoc (made_tokens ms) _ _ }
def_names d f ts ms whole text Close at z e = absurd cc
def_names d f ts ms whole text Comma at z e = absurd cc
def_names d f ts ms whole text Assign at z e = absurd cc
def_names d f ts ms whole text Def at z e = absurd cc
def_names d f ts ms whole text Val at z e = absurd cc

pub names_push : (ps : List Other_parameter) (p : Other_parameter) → names_of (ps ++ p ∷ []) ≡ names_of ps ++ p.name ∷ []
names_push [] p = refl
names_push (q ∷ ps) p = ap (λ (us : List Label). q.name ∷ us) (names_push ps p)

pub others_push : (ps : List Other_parameter) (p : Other_parameter) → other_tokens (ps ++ p ∷ []) ≡ other_tokens ps ++ (token Comma p.comma ∷ word p.name ∷ [])
others_push [] p = refl
others_push (q ∷ ps) p = ap (λ (us : List Lexeme). token Comma q.comma ∷ word q.name ∷ us) (others_push ps p)

def_opens : (d : Span) (f : Label) (o : Span) (ts : List Lexeme) (ms : List Made) → AreMade ms → ts ≡ made_tokens ms ++ begun_tokens (def_open d f o)
    → (sort : Sort) (at : Span) (z : State) → head (Opened f) sort at (context_of (made ms) (begun_params (def_open d f o) [])) [] [] ≡ Ok z → Carries ms (ts ++ token sort at ∷ []) z
def_opens d f o ts ms whole text (Word y) at z e = record { spot = heads (def_item d f o (record { text = y; span = at }) []); crumbs = []; whole = whole; fine = tt; stands = tt; is = sym (done_is _ z e); text = ap (λ (us : List Lexeme). us ++ token (Word y) at ∷ []) text ∙ append_assoc (made_tokens ms) _ _ }
def_opens d f o ts ms whole text (One p) at z e = absurd cc
def_opens d f o ts ms whole text (Join j) at z e = absurd cc
def_opens d f o ts ms whole text (Arrow s) at z e = absurd cc
def_opens d f o ts ms whole text Open at z e = absurd cc
def_opens d f o ts ms whole text Close at z e = record { spot = heads (def_closed d f o without at); crumbs = []; whole = whole; fine = tt; stands = tt; is = sym (done_is _ z e); text = ap (λ (us : List Lexeme). us ++ token Close at ∷ []) text ∙ append_assoc (made_tokens ms) _ _ }
def_opens d f o ts ms whole text Comma at z e = absurd cc
def_opens d f o ts ms whole text Assign at z e = absurd cc
def_opens d f o ts ms whole text Def at z e = absurd cc
def_opens d f o ts ms whole text Val at z e = absurd cc

def_items : (d : Span) (f : Label) (o : Span) (a : Label) (ps : List Other_parameter) (ts : List Lexeme) (ms : List Made) → AreMade ms → ts ≡ made_tokens ms ++ begun_tokens (def_item d f o a ps)
    → (sort : Sort) (at : Span) (z : State) → head (Parameter f) sort at (context_of (made ms) (begun_params (def_item d f o a ps) [])) [] [] ≡ Ok z → Carries ms (ts ++ token sort at ∷ []) z
def_items d f o a ps ts ms whole text (Word y) at z e = absurd cc
def_items d f o a ps ts ms whole text (One p) at z e = absurd cc
def_items d f o a ps ts ms whole text (Join j) at z e = absurd cc
def_items d f o a ps ts ms whole text (Arrow s) at z e = absurd cc
def_items d f o a ps ts ms whole text Open at z e = absurd cc
def_items d f o a ps ts ms whole text Close at z e = record { spot = heads (def_closed d f o (given a ps) at); crumbs = []; whole = whole; fine = tt; stands = tt; is = sym (done_is _ z e); text = ap (λ (us : List Lexeme). us ++ token Close at ∷ []) text ∙ append_assoc (made_tokens ms) _ _ }
def_items d f o a ps ts ms whole text Comma at z e = record { spot = heads (def_comma d f o a ps at); crumbs = []; whole = whole; fine = tt; stands = tt; is = sym (done_is _ z e); text = ap (λ (us : List Lexeme). us ++ token Comma at ∷ []) text ∙ append_assoc (made_tokens ms) _ _ }
def_items d f o a ps ts ms whole text Assign at z e = absurd cc
def_items d f o a ps ts ms whole text Def at z e = absurd cc
def_items d f o a ps ts ms whole text Val at z e = absurd cc

def_commas : (d : Span) (f : Label) (o : Span) (a : Label) (ps : List Other_parameter) (comma : Span) (ts : List Lexeme) (ms : List Made) → AreMade ms → ts ≡ made_tokens ms ++ begun_tokens (def_comma d f o a ps comma)
    → (sort : Sort) (at : Span) (z : State) → head (Separated f) sort at (context_of (made ms) (begun_params (def_comma d f o a ps comma) [])) [] [] ≡ Ok z → Carries ms (ts ++ token sort at ∷ []) z
def_commas d f o a ps comma ts ms whole text (Word y) at z e = record { spot = heads (def_item d f o a (ps ++ (record { comma = comma; name = record { text = y; span = at } }) ∷ [])); crumbs = []; whole = whole; fine = tt; stands = tt; is = sym (done_is _ z e) ∙ ap (λ (us : List Label). state (Heads (Parameter f)) (context_of (made ms) (a ∷ us)) [] []) (sym (names_push ps (record { comma = comma; name = record { text = y; span = at } }))); text = ap (λ (us : List Lexeme). us ++ token (Word y) at ∷ []) text ∙ append_assoc (made_tokens ms) _ _ ∙ ap (λ (us : List Lexeme). made_tokens ms ++ (token Def d ∷ word f ∷ token Open o ∷ word a ∷ us)) (append_assoc (other_tokens ps) _ _ ∙ sym (others_push ps (record { comma = comma; name = record { text = y; span = at } }))) }
def_commas d f o a ps comma ts ms whole text (One p) at z e = absurd cc
def_commas d f o a ps comma ts ms whole text (Join j) at z e = absurd cc
def_commas d f o a ps comma ts ms whole text (Arrow s) at z e = absurd cc
def_commas d f o a ps comma ts ms whole text Open at z e = absurd cc
def_commas d f o a ps comma ts ms whole text Close at z e = absurd cc
def_commas d f o a ps comma ts ms whole text Comma at z e = absurd cc
def_commas d f o a ps comma ts ms whole text Assign at z e = absurd cc
def_commas d f o a ps comma ts ms whole text Def at z e = absurd cc
def_commas d f o a ps comma ts ms whole text Val at z e = absurd cc

def_closes : (d : Span) (f : Label) (o : Span) (ps : Parameters) (c : Span) (ts : List Lexeme) (ms : List Made) → AreMade ms → ts ≡ made_tokens ms ++ begun_tokens (def_closed d f o ps c)
    → (sort : Sort) (at : Span) (z : State) → head (Closed f) sort at (context_of (made ms) (begun_params (def_closed d f o ps c) [])) [] [] ≡ Ok z → Carries ms (ts ++ token sort at ∷ []) z
def_closes d f o ps c ts ms whole text (Word y) at z e = absurd cc
def_closes d f o ps c ts ms whole text (One p) at z e = absurd cc
def_closes d f o ps c ts ms whole text (Join j) at z e = absurd cc
def_closes d f o ps c ts ms whole text (Arrow s) at z e = absurd cc
def_closes d f o ps c ts ms whole text Open at z e = absurd cc
def_closes d f o ps c ts ms whole text Close at z e = absurd cc
def_closes d f o ps c ts ms whole text Comma at z e = absurd cc
def_closes d f o ps c ts ms whole text Assign at z e = record { spot = want; crumbs = body (record { keyword = d; name = f; opening = o; parameters = ps; closing = c; equals = at }) ∷ []; whole = whole; fine = (tt, tt); stands = tt; is = sym (done_is _ z e); text = ap (λ (us : List Lexeme). us ++ token Assign at ∷ []) text ∙ append_assoc (made_tokens ms) _ _ ∙ ap (λ (us : List Lexeme). made_tokens ms ++ (token Def d ∷ word f ∷ token Open o ∷ us)) (append_assoc (parameter_tokens ps) _ _) ∙ sym (append-nil _) }
def_closes d f o ps c ts ms whole text Def at z e = absurd cc
def_closes d f o ps c ts ms whole text Val at z e = absurd cc

-- one more token of a head
head_goes : (b : Begun) (ts : List Lexeme) (ms : List Made) (cs : List Crumb) → AreMade ms → IsFine ms cs → IsBegun b cs → ts ≡ spelled ms cs ++ begun_tokens b
    → (sort : Sort) (at : Span) (z : State) → head (heading_of b) sort at (context_of (made ms) (begun_params b cs)) (held cs) (frames cs) ≡ Ok z → Carries ms (ts ++ token sort at ∷ []) z
head_goes (val_word v) ts ms cs whole fine h text sort at z e = val_words v ts ms cs whole fine h text sort at z e
head_goes (val_name v x) ts ms cs whole fine h text sort at z e = val_names v x ts ms cs whole fine h text sort at z e
head_goes (def_word d) ts ms [] whole fine h text sort at z e = def_words d ts ms whole text sort at z e
head_goes (def_word d) ts ms (k ∷ cs) whole fine h text sort at z e = absurd h
head_goes (def_name d f) ts ms [] whole fine h text sort at z e = def_names d f ts ms whole text sort at z e
head_goes (def_name d f) ts ms (k ∷ cs) whole fine h text sort at z e = absurd h
head_goes (def_open d f o) ts ms [] whole fine h text sort at z e = def_opens d f o ts ms whole text sort at z e
head_goes (def_open d f o) ts ms (k ∷ cs) whole fine h text sort at z e = absurd h
head_goes (def_item d f o a ps) ts ms [] whole fine h text sort at z e = def_items d f o a ps ts ms whole text sort at z e
head_goes (def_item d f o a ps) ts ms (k ∷ cs) whole fine h text sort at z e = absurd h
head_goes (def_comma d f o a ps comma) ts ms [] whole fine h text sort at z e = def_commas d f o a ps comma ts ms whole text sort at z e
head_goes (def_comma d f o a ps comma) ts ms (k ∷ cs) whole fine h text sort at z e = absurd h
head_goes (def_closed d f o ps c) ts ms [] whole fine h text sort at z e = def_closes d f o ps c ts ms whole text sort at z e
head_goes (def_closed d f o ps c) ts ms (k ∷ cs) whole fine h text sort at z e = absurd h

advances : (ts : List Lexeme) (ms : List Made) (spot : Spot) (cs : List Crumb) → AreMade ms → IsFine ms cs → IsSpot ms spot cs → ts ≡ spelled ms cs ++ spot_tokens spot → (sort : Sort) (at : Span) (z : State)
    → advance (mode_of spot) sort at (context_of (made ms) (params_at spot cs)) (nodes_at spot cs) (frames cs) ≡ Ok z → Goes ms ts (token sort at) z
advances ts ms want cs whole fine h text sort at z e = inl (begins ts ms cs whole fine (text ∙ append-nil _) sort (all_open sort (Clear ms cs true) h) at z e)
advances ts ms opened cs whole fine h text sort at z e = inl (firsts ts ms cs whole fine h (text ∙ append-nil _) sort at z e)
advances ts ms (named x) cs whole fine h text sort at z e = names ts ms x cs whole fine text sort at z e
advances ts ms (have w) cs whole fine h text sort at z e = goes_on ts ms w cs (record { whole = whole; atom = h.0; clear = h.1; fine = fine; text = text }) sort (inr h.2) at z e
advances ts ms (signed s p w) cs whole fine h text sort at z e = inl (binds ts ms s p w cs whole fine h.0 h.1 text sort at z e)
advances ts ms (variable s p w x) cs whole fine h text sort at z e = inl (seconds ts ms s p w x cs whole fine h.0 h.1 text sort at z e)
advances ts ms (heads b) cs whole fine h text sort at z e = inl (head_goes b ts ms cs whole fine h text sort at z e)

-- One more token is written as one more token.
pub steps : (ms : List Made) (ts : List Lexeme) (s : State) → Carries ms ts s → (t : Lexeme) (z : State) → step s t ≡ Ok z → Goes ms ts t z
unfolding step
steps ms ts s c t z e =
    advances ts ms c.spot c.crumbs c.whole c.fine c.stands c.text t.sort t.span z (ap (λ (st : State). advance st.mode t.sort t.span st.context st.nodes st.frames) (sym c.is) ∙ e)

abbrev kept : State → Result State Refusal
kept s = Ok s

done_ok : (s z : State) → kept s ≡ kept z → s ≡ z
done_ok s z e = cc

-- some definitions are whole
abbrev pub CarriesSome : List Lexeme → State → Type 0
CarriesSome ts z = (ms : List Made) × Carries ms ts z

some : (ms : List Made) (ts : List Lexeme) (t : Lexeme) (z : State) → Goes ms ts t z → CarriesSome (ts ++ t ∷ []) z
some ms ts t z (inl c) = (ms, c)
some ms ts t z (inr (m, e, c)) = (m ∷ ms, c)

runs : (ts more_ts : List Lexeme) (s z : State) → CarriesSome ts s → run more_ts s ≡ Ok z → CarriesSome (ts ++ more_ts) z
runs ts [] s z c e = subst (λ (us : List Lexeme). CarriesSome us z) (sym (append-nil ts)) (subst (λ (st : State). CarriesSome ts st) (done_ok s z e) c)
runs ts (t ∷ us) s z c e =
    let h = then_ok (run us) t.span.start (step s t) z e in
    subst (λ (vs : List Lexeme). CarriesSome vs z) (append_assoc ts (t ∷ []) us) (runs (ts ++ t ∷ []) us h.0 z (some c.0 ts t h.0 (steps c.0 ts s c.1 t h.0 h.1)) h.2)

pub starts : Carries [] [] start
starts = record { spot = want; crumbs = []; whole = tt; fine = tt; stands = tt; is = refl; text = refl }

-- what has been read is written
pub carries : (ts : List Lexeme) (z : State) → run ts start ≡ Ok z → CarriesSome ts z
carries ts z e = runs [] ts start z ([], starts) e
