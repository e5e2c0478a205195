-- Where tokens stand in a text.
use Rattle.std.proofs.Common.{◌≡◌, ℕ, ◌+◌, ◌≤◌, ◌<◌, List, [], ◌∷◌, ◌++◌, length, slice_index, refl, sym, ap, ◌∙◌, inl, inr, ◌⊎◌, arith}
use Rattle.std.proofs.lemmas.Bool.Decides.{leb_tells}
use Rattle.std.proofs.lemmas.List.{append-nil}
use Rattle.orc_lex.specs.declared.token.Unread.{Unread}
use Rattle.orc_lex.specs.declared.token.Begin.{Begin}
use Rattle.orc_lex.specs.declared.token.Begin.TheVariants as begins
use Rattle.orc_lex.specs.Tokens.{Lexeme}
use Rattle.orc_lex.specs.Lexing.{Piece, Gap, Item, Bad, begin_of, Stands, IsPiece, Pieces, lexemes, Cut}
use Rattle.orc_lex.proofs.Unique.{piece_unique, piece_on, pieces_on, goes_on, cut_goes_on, lexemes_append}
use Rattle.orc_lex.proofs.Within.{piece_in}
use Rattle.orc_lex.proofs.Names.{same_item, not_gap, not_bad}

-- a token stands where it begins
start_at : {t u : Lexeme} → Item t ≡ Item u → t.span.start ≡ u.span.start
start_at e = ap (λ (v : Lexeme). v.span.start) (same_item e)

stands_at : (b : Begin) (src : List ℕ) (at : ℕ) (p : Piece) → Stands b src at p → (t : Lexeme) → p ≡ Item t → t.span.start ≡ at
stands_at begins.Space src at p h t e = absurd cc
stands_at begins.Line src at p h t e = absurd (not_gap (sym h.2 ∙ e))
stands_at begins.Block src at p (inl h) t e = absurd (not_gap (sym h.2 ∙ e))
stands_at begins.Block src at p (inr h) t e = absurd (not_bad (sym h.1 ∙ e))
stands_at begins.Word src at p h t e = sym (start_at (sym h.2 ∙ e))
stands_at begins.Number src at p (end, run, inl h) t e = sym (start_at (sym h.1 ∙ e))
stands_at begins.Number src at p (end, run, inr h) t e = absurd (not_bad (sym h.1 ∙ e))
stands_at (begins.Sign sign) src at p h t e = sym (start_at (sym h ∙ e))
stands_at (begins.Pair sign) src at p h t e = sym (start_at (sym h ∙ e))
stands_at begins.Nothing src at p h t e = absurd (not_bad (sym h ∙ e))

pub token_at : (src : List ℕ) (at : ℕ) (t : Lexeme) → IsPiece src at (Item t) → t.span.start ≡ at
token_at src at t h = stands_at (begin_of (slice_index src at) (slice_index src (at + 1))) src at (Item t) h.1 t refl

no_gap : {e : ℕ} {why : Unread} → Gap e ≡ Bad why → ⊥
no_gap e = absurd cc

no_item : {t : Lexeme} {why : Unread} → Item t ≡ Bad why → ⊥
no_item e = absurd cc

passes : (src : List ℕ) (at to : ℕ) (why : Unread) (ps : List Piece) → IsPiece src at (Bad why) → Pieces src at ps to → at < to → ⊥
passes src at to why [] bad h lt = omega (arith, h, lt)
passes src at to why (Gap e ∷ ps) bad h lt = no_gap (piece_unique src at (Gap e) (Bad why) h.0 bad)
passes src at to why (Item t ∷ ps) bad h lt = no_item (piece_unique src at (Item t) (Bad why) h.0 bad)
passes src at to why (Bad other ∷ ps) bad h lt = h

-- no tokens go on behind a place where none can be read
pub bad_last : (src : List ℕ) (ts us : List Lexeme) (at to : ℕ) (why : Unread) → Cut src ts at → IsPiece src at (Bad why) → Cut src us to → at < to → ⊥
bad_last src ts us at to why h bad k lt =
    let r = goes_on src h.0 k.0 0 at to h.1 k.1 (omega (arith, lt)) in
    passes src at to why r.0 bad r.2 lt

pieces_in : (src : List ℕ) (from : ℕ) (ps : List Piece) (to : ℕ) → from ≤ length src → Pieces src from ps to → to ≤ length src
pieces_in src from [] to h k = omega (arith, h, k)
pieces_in src from (Gap e ∷ ps) to h k = pieces_in src e ps to (piece_in src from (Gap e) k.0) k.1
pieces_in src from (Item t ∷ ps) to h k = pieces_in src t.span.end ps to (piece_in src from (Item t) k.0) k.1
pieces_in src from (Bad why ∷ ps) to h k = absurd k

pub cut_in : (src : List ℕ) (ts : List Lexeme) (to : ℕ) → Cut src ts to → to ≤ length src
cut_in src ts to h = pieces_in src 0 h.0 to (omega arith) h.1

pub head_is : {t u : Lexeme} {ts us : List Lexeme} → t ∷ ts ≡ u ∷ us → t ≡ u
head_is e = cc

pub tail_is : {t u : Lexeme} {ts us : List Lexeme} → t ∷ ts ≡ u ∷ us → ts ≡ us
tail_is e = cc

-- a token between two places begins between them
pieces_between : (src : List ℕ) (from : ℕ) (ps : List Piece) (to : ℕ) (front : List Lexeme) (next : Lexeme) (rest : List Lexeme) → Pieces src from ps to → lexemes ps ≡ front ++ next ∷ rest → (from ≤ next.span.start) × (next.span.start < to)
pieces_between src from [] to [] next rest h e = absurd cc
pieces_between src from [] to (f ∷ front) next rest h e = absurd cc
pieces_between src from (Gap end ∷ ps) to front next rest h e =
    let r = pieces_between src end ps to front next rest h.1 e in
    (omega (arith, r.0, piece_on src from (Gap end) h.0), r.1)
pieces_between src from (Item t ∷ ps) to [] next rest h e =
    let same : t ≡ next = head_is e in
    let starts : t.span.start ≡ next.span.start = ap (λ (u : Lexeme). u.span.start) same in
    (omega (arith, starts, token_at src from t h.0), omega (arith, starts, token_at src from t h.0, piece_on src from (Item t) h.0, pieces_on src t.span.end ps to h.1))
pieces_between src from (Item t ∷ ps) to (f ∷ front) next rest h e =
    let r = pieces_between src t.span.end ps to front next rest h.1 (tail_is e) in
    (omega (arith, r.0, piece_on src from (Item t) h.0), r.1)
pieces_between src from (Bad why ∷ ps) to front next rest h e = absurd h

pub before_cut : (src : List ℕ) (ts : List Lexeme) (to : ℕ) (front : List Lexeme) (next : Lexeme) → Cut src (front ++ next ∷ []) to → next.span.start < to
before_cut src ts to front next h = let r = pieces_between src 0 h.0 to front next [] h.1 h.2 in r.1

nothing_left : (ts vs : List Lexeme) → [] ≡ ts ++ vs → vs ≡ []
nothing_left [] vs e = sym e
nothing_left (t ∷ ts) vs e = absurd cc

-- the last token is behind a front, or the front is all
pub last_of : (front : List Lexeme) (next : Lexeme) (ts vs : List Lexeme) → front ++ next ∷ [] ≡ ts ++ vs → (vs ≡ []) ⊎ ((us : List Lexeme) × (vs ≡ us ++ next ∷ []))
last_of front next [] vs e = inr (front, sym e)
last_of [] next (t ∷ ts) vs e = inl (nothing_left ts vs (tail_is e))
last_of (f ∷ front) next (t ∷ ts) vs e = last_of front next ts vs (tail_is e)

-- the tokens up to a place that begins no later than a token are all before it
pub before_token : (src : List ℕ) (ts : List Lexeme) (at : ℕ) (front : List Lexeme) (next : Lexeme) (end : ℕ) → Cut src ts at → Cut src (front ++ next ∷ []) end → next.span.start < at → (vs : List Lexeme) × (ts ≡ (front ++ next ∷ []) ++ vs)
before_token src ts at front next end h k lt =
    elim (leb_tells end at) [
      | inl met ↦ cut_goes_on src (front ++ next ∷ []) ts end at k h met.1
      | inr unmet ↦
          let r = goes_on src h.0 k.0 0 at end h.1 k.1 (omega (arith, unmet.1)) in
          let e : front ++ next ∷ [] ≡ ts ++ lexemes r.0 = sym k.2 ∙ ap lexemes r.1 ∙ lexemes_append h.0 r.0 ∙ ap (λ (us : List Lexeme). us ++ lexemes r.0) h.2 in
          elim (last_of front next ts (lexemes r.0) e) [
            | inl none ↦ ([], sym (e ∙ ap (λ (us : List Lexeme). ts ++ us) none ∙ append-nil ts) ∙ sym (append-nil _))
            | inr some ↦ let b = pieces_between src at r.0 end some.0 next [] r.2 some.1 in absurd (omega (arith, lt, b.0))
          ]
    ]
