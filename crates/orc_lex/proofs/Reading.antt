-- What a place of a text reads as, by the bytes that stand there.
use Rattle.std.proofs.Common.{◌≡◌, ℕ, zero, suc, ◌+◌, ◌-◌, ◌<◌, ◌≤◌, ◌^◌, Bool, true, false, List, [], ◌∷◌, ◌++◌, length, drop, slice_index, slice_range, ℤ, pos, negsuc, FitsSigned, w64, decimal, true≢false, neg_ℤ, le-leb, ne_eqb, refl, sym, ap, subst, ◌∙◌, inl, arith}
use Rattle.std.specs.Prelude.{◌||◌, ◌&&◌, ◌==◌, if◌then◌else◌, take}
use Rattle.std.specs.Fmt.{signed_decimal}
use Rattle.std.specs.Str.Parse.{digits_value, signed_digits_value}
use Rattle.std.proofs.lemmas.Str.Parse.{digit_at}
use Rattle.std.proofs.lemmas.Fmt.{decimal_is_IsNumeral}
use Rattle.std.proofs.lemmas.Bool.Decides.{nat_tests}
use Rattle.std.proofs.lemmas.List.{get_or-drop, length-drop, length-append, drop-drop, drop_at, take_at, get_or_append_left}
use Rattle.orc_lex.specs.declared.token.Begin.{Begin}
use Rattle.orc_lex.specs.declared.token.Begin.TheVariants as begins
use Rattle.orc_lex.specs.declared.token.Sign.{Sign}
use Rattle.orc_lex.specs.declared.token.Plain.TheVariants as plains
use Rattle.orc_lex.specs.Tokens.{Sort, One, Lexeme, token, sort_of}
use Rattle.orc_lex.specs.Lexing.{is_letter, is_digit, is_part, is_blank, begin_of, word, IsRun, Piece, Gap, Item, Bad, span, IsNumber, Stands, IsPiece, Pieces, lexemes}
use Rattle.orc_lex.proofs.Unique.{lexemes_append}
use Rattle.orc_lex.proofs.Numbers.{split_and, digit_range}

-- from a place on these tokens stand, and then this text
pub record Reads (src : List ℕ) (from : ℕ) (rest : List ℕ) (ts : List Lexeme) : Type 0 where
  pub to : ℕ
  pub ps : List Piece
  pub pieces : Pieces src from ps to
  pub are : lexemes ps ≡ ts
  pub behind : drop to src ≡ rest

pieces_append : (src : List ℕ) (from : ℕ) (ps : List Piece) (mid : ℕ) (qs : List Piece) (to : ℕ) → Pieces src from ps mid → Pieces src mid qs to → Pieces src from (ps ++ qs) to
pieces_append src from [] mid qs to h k = subst (λ (n : ℕ). Pieces src n qs to) (sym h) k
pieces_append src from (Gap e ∷ ps) mid qs to h k = (h.0, pieces_append src e ps mid qs to h.1 k)
pieces_append src from (Item t ∷ ps) mid qs to h k = (h.0, pieces_append src t.span.end ps mid qs to h.1 k)
pieces_append src from (Bad why ∷ ps) mid qs to h k = absurd h

-- one stretch after the other
pub follows : {src : List ℕ} {from : ℕ} {mid rest : List ℕ} {ts us : List Lexeme} → (a : Reads src from mid ts) → Reads src a.to rest us → Reads src from rest (ts ++ us)
follows {src} {from} {mid} {rest} {ts} a b = record {
  to = b.to;
  ps = a.ps ++ b.ps;
  pieces = pieces_append src from a.ps a.to b.ps b.to a.pieces b.pieces;
  are = lexemes_append a.ps b.ps ∙ ap (λ (ts : List Lexeme). ts ++ lexemes b.ps) a.are ∙ ap (λ (us : List Lexeme). ts ++ us) b.are;
  behind = b.behind;
}

pub reads_none : (src : List ℕ) (from : ℕ) (rest : List ℕ) → drop from src ≡ rest → Reads src from rest []
reads_none src from rest h = record { to = from; ps = []; pieces = refl; are = refl; behind = h }

byte_at : (src : List ℕ) (at k : ℕ) (l : List ℕ) → drop at src ≡ l → slice_index src (at + k) ≡ slice_index l k
byte_at src at k l h = sym (get_or-drop at src k 0) ∙ ap (λ (m : List ℕ). slice_index m k) h

first_at : (src : List ℕ) (at : ℕ) (l : List ℕ) → drop at src ≡ l → slice_index src at ≡ slice_index l 0
first_at src at l h = ap (slice_index src) (omega arith) ∙ byte_at src at 0 l h

inside : (src : List ℕ) (at a : ℕ) (l : List ℕ) → drop at src ≡ a ∷ l → at < length src
inside src at a l h = omega (arith, length-drop at src, ap length h)

pub past : (src bs : List ℕ) (at to : ℕ) (l : List ℕ) → drop at src ≡ bs ++ l → to ≡ at + length bs → drop to src ≡ l
past src bs at to l h e = ap (λ (n : ℕ). drop n src) e ∙ sym (drop-drop (length bs) at src) ∙ ap (drop (length bs)) h ∙ drop_at bs l (length bs) refl

-- what begins with two bytes stands where they stand
piece_by : (src : List ℕ) (at : ℕ) (b : Begin) (p : Piece) (a : ℕ) (l : List ℕ) → drop at src ≡ a ∷ l → begin_of a (slice_index l 0) ≡ b → Stands b src at p → IsPiece src at p
piece_by src at b p a l h e st =
    let is : begin_of (slice_index src at) (slice_index src (at + 1)) ≡ b =
    ap (λ (x : ℕ). begin_of x (slice_index src (at + 1))) (first_at src at (a ∷ l) h) ∙ ap (begin_of a) (byte_at src at 1 (a ∷ l) h) ∙ e in
    (inside src at a l h, subst (λ (c : Begin). Stands c src at p) (sym is) st)

pub blank : (src : List ℕ) (at b : ℕ) (l : List ℕ) → begin_of b (slice_index l 0) ≡ begins.Space → drop at src ≡ b ∷ l → Reads src at l []
blank src at b l e h = record {
  to = at + 1;
  ps = Gap (at + 1) ∷ [];
  pieces = (piece_by src at begins.Space (Gap (at + 1)) b l h e refl, refl);
  are = refl;
  behind = past src (b ∷ []) at (at + 1) l h refl;
}

pub sign_here : (src : List ℕ) (at a : ℕ) (l : List ℕ) (sign : Sign) → begin_of a (slice_index l 0) ≡ begins.Sign sign → drop at src ≡ a ∷ l → Reads src at l (token (sort_of sign) (span at (at + 1)) ∷ [])
sign_here src at a l sign e h = record {
  to = at + 1;
  ps = Item (token (sort_of sign) (span at (at + 1))) ∷ [];
  pieces = (piece_by src at (begins.Sign sign) (Item (token (sort_of sign) (span at (at + 1)))) a l h e refl, refl);
  are = refl;
  behind = past src (a ∷ []) at (at + 1) l h refl;
}

pub pair_here : (src : List ℕ) (at a b : ℕ) (l : List ℕ) (sign : Sign) → begin_of a b ≡ begins.Pair sign → drop at src ≡ a ∷ b ∷ l → Reads src at l (token (sort_of sign) (span at (at + 2)) ∷ [])
pair_here src at a b l sign e h = record {
  to = at + 2;
  ps = Item (token (sort_of sign) (span at (at + 2))) ∷ [];
  pieces = (piece_by src at (begins.Pair sign) (Item (token (sort_of sign) (span at (at + 2)))) a (b ∷ l) h e refl, refl);
  are = refl;
  behind = past src (a ∷ b ∷ []) at (at + 2) l h refl;
}

-- bytes of one kind, and then one that isn't
run_each : (is : ℕ → Bool) (src : List ℕ) (from : ℕ) (bs rest : List ℕ) → ((k : ℕ) → k < length bs → is (slice_index bs k) ≡ true) → drop from src ≡ bs ++ rest → (k : ℕ) → k < from + length bs → from ≤ k → is (slice_index src k) ≡ true
run_each is src from bs rest each h k lt le =
    let i : k ≡ from + (k - from) = omega arith in
    ap (λ (n : ℕ). is (slice_index src n)) i
    ∙ ap is (byte_at src from (k - from) (bs ++ rest) h ∙ get_or_append_left bs rest 0 (k - from) (omega arith))
    ∙ each (k - from) (omega arith)

run_here : (is : ℕ → Bool) (src : List ℕ) (from to : ℕ) (bs rest : List ℕ) → ((k : ℕ) → k < length bs → is (slice_index bs k) ≡ true) → is (slice_index rest 0) ≡ false → drop from src ≡ bs ++ rest → from ≤ length src → to ≡ from + length bs → IsRun is src from to
run_here is src from to bs rest each last h le e = record {
  low = omega arith;
  within = omega (arith, length-drop from src, ap length h, length-append bs rest);
  each = λ k lt low. run_each is src from bs rest each h k (omega arith) low;
  longest = λ lt. ap is (first_at src to rest (past src bs from to rest h e)) ∙ last;
}

-- a name or reserved word: a letter, and behind it letters, digits and `_`
pub record IsWord (text : List ℕ) : Type 0 where
  pub letter : is_letter (slice_index text 0) ≡ true
  pub parts : (k : ℕ) → k < length text → is_part (slice_index text k) ≡ true

abbrev pub all_parts : List ℕ → Bool
all_parts [] = true
all_parts (b ∷ bs) = is_part b && all_parts bs

each_part : (bs : List ℕ) → all_parts bs ≡ true → (k : ℕ) → k < length bs → is_part (slice_index bs k) ≡ true
each_part [] e k lt = absurd (omega arith)
each_part (b ∷ bs) e zero lt = (split_and (is_part b) (all_parts bs) e).0
each_part (b ∷ bs) e (suc k) lt = each_part bs (split_and (is_part b) (all_parts bs) e).1 k (omega arith)

pub is_word : (bs : List ℕ) → is_letter (slice_index bs 0) ≡ true → all_parts bs ≡ true → IsWord bs
is_word bs e f = record { letter = e; parts = each_part bs f }

-- these bytes, and nothing behind them, stand between two places
cut_out : (src : List ℕ) (at to : ℕ) (bs rest : List ℕ) → drop at src ≡ bs ++ rest → to ≡ at + length bs → slice_range src at to ≡ bs
cut_out src at to bs rest h e =
    let n : to - at ≡ length bs = omega arith in
    ap (λ (m : ℕ). take m (drop at src)) n ∙ ap (take (length bs)) h ∙ take_at bs rest (length bs) refl

chosen_second : (c d : Bool) (x y z : Begin) → c ≡ false → d ≡ true → (if c then x else (if d then y else z)) ≡ y
chosen_second true d x y z e f = absurd (true≢false e)
chosen_second false true x y z e f = refl
chosen_second false false x y z e f = absurd (true≢false (sym f))

chosen_third : (b c d : Bool) (w x y z : Begin) → b ≡ false → c ≡ false → d ≡ true → (if b then w else (if c then x else (if d then y else z))) ≡ y
chosen_third true c d w x y z h e f = absurd (true≢false h)
chosen_third false c d w x y z h e f = chosen_second c d x y z e f

pub letter_range : (a : ℕ) → is_letter a ≡ true → (65 ≤ a) × (a ≤ 122)
letter_range a e = grind (arith, nat_tests)

range_digit : (a : ℕ) → 48 ≤ a → a ≤ 57 → is_digit a ≡ true
range_digit a h k = rw (le-leb 48 a h, le-leb a 57 k) refl

not_blank : (a : ℕ) → 33 ≤ a → is_blank a ≡ false
not_blank a h = rw (ne_eqb a 32 (λ e. omega arith), ne_eqb a 9 (λ e. omega arith), ne_eqb a 13 (λ e. omega arith), ne_eqb a 10 (λ e. omega arith)) refl

not_letter : (a : ℕ) → a ≤ 57 → is_letter a ≡ false
not_letter a h = grind (arith, nat_tests)

letter_begins : (a b : ℕ) → is_letter a ≡ true → begin_of a b ≡ begins.Word
letter_begins a b e = chosen_second (is_blank a) (is_letter a) begins.Space begins.Word _ (not_blank a (omega (arith, letter_range a e))) e

pub word_here : (src : List ℕ) (at : ℕ) (text rest : List ℕ) → IsWord text → is_part (slice_index rest 0) ≡ false → drop at src ≡ text ++ rest → Reads src at rest (token (word text) (span at (at + length text)) ∷ [])
word_here src at [] rest is last h = absurd (true≢false (sym is.letter))
word_here src at (a ∷ bs) rest is last h =
    let end : ℕ = at + suc (length bs) in
    let t : Lexeme = token (word (a ∷ bs)) (span at end) in
    let run : IsRun is_part src (at + 1) end =
    run_here is_part src (at + 1) end bs rest (λ k lt. is.parts (suc k) (omega arith)) last (past src (a ∷ []) at (at + 1) (bs ++ rest) h refl) (omega (arith, inside src at a (bs ++ rest) h)) (omega arith) in
    let same : word (a ∷ bs) ≡ word (slice_range src at end) = sym (ap word (cut_out src at end (a ∷ bs) rest h refl)) in
    record {
      to = end;
      ps = Item t ∷ [];
      pieces = (piece_by src at begins.Word (Item t) a (bs ++ rest) h (letter_begins a (slice_index (bs ++ rest) 0) is.letter) (end, run, ap (λ (s : Sort). Item (token s (span at end))) same), refl);
      are = refl;
      behind = past src (a ∷ bs) at end rest h refl;
    }

digit_begins : (a b : ℕ) → is_digit a ≡ true → begin_of a b ≡ begins.Number
digit_begins a b e =
    let r = digit_range a e in
    chosen_third (is_blank a) (is_letter a) (is_digit a || ((a == 45) && is_digit b)) begins.Space begins.Word begins.Number _ (not_blank a (omega arith)) (not_letter a (omega arith)) (rw e refl)

minus_begins : (b : ℕ) → is_digit b ≡ true → begin_of 45 b ≡ begins.Number
minus_begins b e = rw e refl

number_by : (src : List ℕ) (at a : ℕ) (bs rest : List ℕ) (z : ℤ) → begin_of a (slice_index (bs ++ rest) 0) ≡ begins.Number → ((k : ℕ) → k < length bs → is_digit (slice_index bs k) ≡ true) → is_digit (slice_index rest 0) ≡ false
    → FitsSigned w64 z → signed_digits_value 10 (a ∷ bs) ≡ z → drop at src ≡ (a ∷ bs) ++ rest → Reads src at rest (token (One (plains.Number z)) (span at (at + suc (length bs))) ∷ [])
number_by src at a bs rest z begin each last fits value h =
    let end : ℕ = at + suc (length bs) in
    let t : Lexeme = token (One (plains.Number z)) (span at end) in
    let run : IsRun is_digit src (at + 1) end =
    run_here is_digit src (at + 1) end bs rest each last (past src (a ∷ []) at (at + 1) (bs ++ rest) h refl) (omega (arith, inside src at a (bs ++ rest) h)) (omega arith) in
    let same : z ≡ signed_digits_value 10 (slice_range src at end) = sym (ap (signed_digits_value 10) (cut_out src at end (a ∷ bs) rest h refl) ∙ value) in
    record {
      to = end;
      ps = Item t ∷ [];
      pieces = (piece_by src at begins.Number (Item t) a (bs ++ rest) h begin (end, run, subst (λ (y : ℤ). IsNumber y at end (Item t)) same (inl (fits, refl))), refl);
      are = refl;
      behind = past src (a ∷ bs) at end rest h refl;
    }

plain_value : (ds : List ℕ) → 48 ≤ slice_index ds 0 → signed_digits_value 10 ds ≡ pos (digits_value 10 ds)
plain_value ds h = rw (ne_eqb (slice_index ds 0) 45 (λ e. omega arith), ne_eqb (slice_index ds 0) 43 (λ e. omega arith)) refl

decimal_each : (n : ℕ) → n < 2 ^ 64 → (k : ℕ) → k < length (decimal n) → is_digit (slice_index (decimal n) k) ≡ true
decimal_each n h k lt = let r = digit_at (decimal n) k (decimal_is_IsNumeral n h).0.1 lt in range_digit (slice_index (decimal n) k) r.0 r.1

-- a numeral, where no digit follows
plain_here : (src : List ℕ) (at n : ℕ) (ds rest : List ℕ) → decimal n ≡ ds → n < 2 ^ 63 → FitsSigned w64 (pos n) → is_digit (slice_index rest 0) ≡ false → drop at src ≡ ds ++ rest → Reads src at rest (token (One (plains.Number (pos n))) (span at (at + length ds)) ∷ [])
plain_here src at n [] rest e small fits last h = absurd (omega (arith, (decimal_is_IsNumeral n (omega arith)).0.0, ap length e))
plain_here src at n (d ∷ ds) rest e small fits last h =
    let is = decimal_is_IsNumeral n (omega arith) in
    let each : (k : ℕ) → k < suc (length ds) → is_digit (slice_index (d ∷ ds) k) ≡ true = λ k lt. ap (λ (l : List ℕ). is_digit (slice_index l k)) (sym e) ∙ decimal_each n (omega arith) k (omega (arith, ap length e)) in
    number_by src at d ds rest (pos n) (digit_begins d (slice_index (ds ++ rest) 0) (each 0 (omega arith))) (λ k lt. each (suc k) (omega arith)) last fits
    (plain_value (d ∷ ds) (digit_range d (each 0 (omega arith))).0 ∙ ap (λ (l : List ℕ). pos (digits_value 10 l)) (sym e) ∙ ap pos is.1) h

minus_here : (src : List ℕ) (at n : ℕ) (ds rest : List ℕ) → decimal (suc n) ≡ ds → suc n < 2 ^ 64 → FitsSigned w64 (negsuc n) → is_digit (slice_index rest 0) ≡ false → drop at src ≡ (45 ∷ ds) ++ rest → Reads src at rest (token (One (plains.Number (negsuc n))) (span at (at + suc (length ds))) ∷ [])
minus_here src at n [] rest e small fits last h = absurd (omega (arith, (decimal_is_IsNumeral (suc n) small).0.0, ap length e))
minus_here src at n (d ∷ ds) rest e small fits last h =
    let is = decimal_is_IsNumeral (suc n) small in
    let each : (k : ℕ) → k < suc (length ds) → is_digit (slice_index (d ∷ ds) k) ≡ true = λ k lt. ap (λ (l : List ℕ). is_digit (slice_index l k)) (sym e) ∙ decimal_each (suc n) small k (omega (arith, ap length e)) in
    number_by src at 45 (d ∷ ds) rest (negsuc n) (minus_begins d (each 0 (omega arith))) each last fits
    (ap (λ (l : List ℕ). neg_ℤ (pos (digits_value 10 l))) (sym e) ∙ ap (λ (m : ℕ). neg_ℤ (pos m)) is.1) h

pub number_here : (src : List ℕ) (at : ℕ) (z : ℤ) (rest : List ℕ) → FitsSigned w64 z → is_digit (slice_index rest 0) ≡ false → drop at src ≡ signed_decimal z ++ rest → Reads src at rest (token (One (plains.Number z)) (span at (at + length (signed_decimal z))) ∷ [])
number_here src at (pos n) rest fits last h = plain_here src at n (decimal n) rest refl fits.sfits fits last h
number_here src at (negsuc n) rest fits last h = let small = fits.sfits in minus_here src at n (decimal (suc n)) rest refl (omega arith) fits last h

no_middle : (x y z : Bool) → (x || y || z) ≡ false → y ≡ false
no_middle true y z e = absurd (true≢false e)
no_middle false true z e = absurd (true≢false e)
no_middle false false z e = refl

-- what follows a word doesn't go on with it
pub no_digit : (b : ℕ) → is_part b ≡ false → is_digit b ≡ false
no_digit b e = no_middle (is_letter b) (is_digit b) (b == 95) e
