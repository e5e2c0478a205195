-- What the names and numbers of a text are.
use Rattle.std.proofs.Common.{◌≡◌, ℕ, zero, suc, ◌+◌, ◌<◌, Bool, true, false, List, [], ◌∷◌, slice_index, slice_range, codes, bytes_eq, FitsSigned, w64, ℤ, refl, sym, ap, subst, ◌∙◌, inl, inr, arith}
use Rattle.std.specs.Prelude.{◌||◌, ◌&&◌, ◌==◌, if◌then◌else◌}
use Rattle.orc_lex.specs.declared.token.Plain.{Plain}
use Rattle.orc_lex.specs.declared.token.Plain.TheVariants as plains
use Rattle.orc_lex.specs.declared.token.Begin.{Begin}
use Rattle.orc_lex.specs.declared.token.Begin.TheVariants as begins
use Rattle.orc_lex.specs.declared.token.Unread.{Unread}
use Rattle.orc_lex.specs.declared.token.Sign.{Sign}
use Rattle.orc_lex.specs.declared.token.Sign.TheVariants as signs
use Rattle.orc_lex.specs.Tokens.{Sort, Word, One, Def, Val, Lexeme, sort_of}
use Rattle.orc_lex.specs.Lexing.{is_letter, is_digit, is_part, is_blank, sign_of, begin_of, word, IsRun, Piece, Gap, Item, Bad, Stands, IsPiece, Pieces, lexemes, Cut}
use Rattle.orc_lex.proofs.Reading.{IsWord}
use Rattle.orc_lex.proofs.Numbers.{piece_length, piece_at}

-- a name: a word that isn't reserved
pub record IsName (text : List ℕ) : Type 0 where
  pub is : IsWord text
  pub free : word text ≡ Word text

-- a number fits 64 signed bits
abbrev pub FinePlain : Plain → Type 0
FinePlain (plains.Number z) = FitsSigned w64 z
FinePlain _ = Unit {0}

-- a token of a name or number is one that can be written
abbrev pub Good : Sort → Type 0
Good (Word text) = IsName text
Good (One p) = FinePlain p
Good _ = Unit {0}

abbrev pub AreGood : List Lexeme → Type 0
AreGood [] = Unit {0}
AreGood (t ∷ ts) = Good t.sort × AreGood ts

-- the word of these bytes, by which reserved word they are
abbrev chosen : Bool → Bool → Bool → Bool → Bool → Bool → List ℕ → Sort
chosen a b c d e f text = if a then Def else (if b then Val else (if c then One plains.Stop else (if d then One (plains.Truth true) else (if e then One (plains.Truth false) else (if f then One plains.Signal else Word text)))))

chosen_name : (a b c d e f : Bool) (text x : List ℕ) → chosen a b c d e f text ≡ Word x → text ≡ x
chosen_name true b c d e f text x h = absurd cc
chosen_name false true c d e f text x h = absurd cc
chosen_name false false true d e f text x h = absurd cc
chosen_name false false false true e f text x h = absurd cc
chosen_name false false false false true f text x h = absurd cc
chosen_name false false false false false true text x h = absurd cc
chosen_name false false false false false false text x h = cc

chosen_number : (a b c d e f : Bool) (text : List ℕ) (z : ℤ) → chosen a b c d e f text ≡ One (plains.Number z) → ⊥
chosen_number true b c d e f text z h = absurd cc
chosen_number false true c d e f text z h = absurd cc
chosen_number false false true d e f text z h = absurd cc
chosen_number false false false true e f text z h = absurd cc
chosen_number false false false false true f text z h = absurd cc
chosen_number false false false false false true text z h = absurd cc
chosen_number false false false false false false text z h = absurd cc

word_name : (text x : List ℕ) → word text ≡ Word x → text ≡ x
word_name text x h = chosen_name (bytes_eq text (codes "def")) (bytes_eq text (codes "val")) (bytes_eq text (codes "stop")) (bytes_eq text (codes "true")) (bytes_eq text (codes "false")) (bytes_eq text (codes "signal")) text x h

word_number : (text : List ℕ) (z : ℤ) → word text ≡ One (plains.Number z) → ⊥
word_number text z h = chosen_number (bytes_eq text (codes "def")) (bytes_eq text (codes "val")) (bytes_eq text (codes "stop")) (bytes_eq text (codes "true")) (bytes_eq text (codes "false")) (bytes_eq text (codes "signal")) text z h

good_word : (text : List ℕ) → IsWord text → (s : Sort) → word text ≡ s → Good s
good_word text is (Word x) h = let e = word_name text x h in subst IsName e (record { is = is; free = h ∙ ap (λ (l : List ℕ). Word l) (sym e) })
good_word text is (One (plains.Number z)) h = absurd (word_number text z h)
good_word text is (One plains.Stop) h = tt
good_word text is (One plains.Signal) h = tt
good_word text is (One (plains.Truth t)) h = tt
good_word text is _ h = tt

-- anything but a word
abbrev IsOther : Begin → Type 0
IsOther begins.Word = ⊥
IsOther _ = Unit {0}

either : (c : Bool) (x y : Begin) → IsOther x → IsOther y → IsOther (if c then x else y)
either true x y h k = h
either false x y h k = k

sign_other : (a b : ℕ) → IsOther (sign_of a b)
sign_other a b = search either depth 20

inverted : (c d : Bool) (x : Begin) → IsOther x → (if c then begins.Space else (if d then begins.Word else x)) ≡ begins.Word → d ≡ true
inverted true d x h p = absurd cc
inverted false true x h p = refl
inverted false false x h p = absurd (subst IsOther p h)

begins_word : (a b : ℕ) → begin_of a b ≡ begins.Word → is_letter a ≡ true
begins_word a b p =
    let block : Begin = if (a == 123) && (b == 45) then begins.Block else sign_of a b in
    let line : Begin = if (a == 45) && (b == 45) then begins.Line else block in
    let number : Begin = if is_digit a || ((a == 45) && is_digit b) then begins.Number else line in
    let other : IsOther number = either _ begins.Number line tt (either _ begins.Line block tt (either _ begins.Block (sign_of a b) tt (sign_other a b))) in
    inverted (is_blank a) (is_letter a) number other p

run_part : (src : List ℕ) (at end k : ℕ) → is_letter (slice_index src at) ≡ true → IsRun is_part src (at + 1) end → at + k < end → is_part (slice_index src (at + k)) ≡ true
run_part src at end zero letter run lt =
    let e : at + 0 ≡ at = omega arith in
    let part : is_part (slice_index src at) ≡ true = rw letter refl in
    ap (λ (i : ℕ). is_part (slice_index src i)) e ∙ part
run_part src at end (suc k) letter run lt = run.each (at + suc k) lt (omega arith)

slice_word : (src : List ℕ) (at end : ℕ) → is_letter (slice_index src at) ≡ true → IsRun is_part src (at + 1) end → IsWord (slice_range src at end)
slice_word src at end letter run =
    let size = piece_length src at end (omega (arith, run.low)) run.within in
    record {
      letter = ap is_letter (piece_at src at end 0 (omega (arith, run.low)) ∙ ap (slice_index src) (omega arith)) ∙ letter;
      parts = λ k lt. ap is_part (piece_at src at end k (omega arith)) ∙ run_part src at end k letter run (omega arith);
    }

good_sign : (s : Sign) → Good (sort_of s)
good_sign (signs.Joint j) = tt
good_sign (signs.Arrow s) = tt
good_sign signs.Open = tt
good_sign signs.Close = tt
good_sign signs.Comma = tt
good_sign signs.Assign = tt

pub same_item : {t u : Lexeme} → Item t ≡ Item u → t ≡ u
same_item e = cc

same_sort : (t u : Lexeme) → Item t ≡ Item u → t.sort ≡ u.sort
same_sort t u e = ap (λ (v : Lexeme). v.sort) (same_item e)

pub not_gap : {e : ℕ} {t : Lexeme} → Gap e ≡ Item t → ⊥
not_gap e = absurd cc

pub not_bad : {why : Unread} {t : Lexeme} → Bad why ≡ Item t → ⊥
not_bad e = absurd cc

good_stands : (b : Begin) (src : List ℕ) (at : ℕ) (p : Piece) → begin_of (slice_index src at) (slice_index src (at + 1)) ≡ b → Stands b src at p → (t : Lexeme) → p ≡ Item t → Good t.sort
good_stands begins.Space src at p b h t e = absurd cc
good_stands begins.Line src at p b h t e = absurd (not_gap (sym h.2 ∙ e))
good_stands begins.Block src at p b (inl h) t e = absurd (not_gap (sym h.2 ∙ e))
good_stands begins.Block src at p b (inr h) t e = absurd (not_bad (sym h.1 ∙ e))
good_stands begins.Word src at p b h t e = good_word (slice_range src at h.0) (slice_word src at h.0 (begins_word (slice_index src at) (slice_index src (at + 1)) b) h.1) t.sort (same_sort _ t (sym h.2 ∙ e))
good_stands begins.Number src at p b (end, run, inl h) t e = subst Good (same_sort _ t (sym h.1 ∙ e)) h.0
good_stands begins.Number src at p b (end, run, inr h) t e = absurd (not_bad (sym h.1 ∙ e))
good_stands (begins.Sign sign) src at p b h t e = subst Good (same_sort _ t (sym h ∙ e)) (good_sign sign)
good_stands (begins.Pair sign) src at p b h t e = subst Good (same_sort _ t (sym h ∙ e)) (good_sign sign)
good_stands begins.Nothing src at p b h t e = absurd (not_bad (sym h ∙ e))

good_piece : (src : List ℕ) (at : ℕ) (t : Lexeme) → IsPiece src at (Item t) → Good t.sort
good_piece src at t h = good_stands (begin_of (slice_index src at) (slice_index src (at + 1))) src at (Item t) refl h.1 t refl

good_pieces : (src : List ℕ) (from : ℕ) (ps : List Piece) (to : ℕ) → Pieces src from ps to → AreGood (lexemes ps)
good_pieces src from [] to h = tt
good_pieces src from (Gap e ∷ ps) to h = good_pieces src e ps to h.1
good_pieces src from (Item t ∷ ps) to h = (good_piece src from t h.0, good_pieces src t.span.end ps to h.1)
good_pieces src from (Bad why ∷ ps) to h = absurd h

pub good_cut : (src : List ℕ) (ts : List Lexeme) (to : ℕ) → Cut src ts to → AreGood ts
good_cut src ts to h = subst AreGood h.2 (good_pieces src 0 h.0 to h.1)
