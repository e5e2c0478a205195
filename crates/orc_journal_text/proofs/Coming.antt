-- What has come of a text that is read piece by piece.
use Rattle.std.proofs.Common.{◌≡◌, ℕ, ◌+◌, ◌-◌, ◌<◌, ◌≤◌, true, false, ◌∷◌, List, [], ◌++◌, Option, None, Some, length, take, drop, refl, sym, ap, subst, ◌∙◌, append-nil, arith, length-drop, length-append}
use Rattle.std.proofs.Math.Seq.{drop-append_seam, take-add}
use Rattle.std.proofs.lemmas.List.{drop-drop, drop-take, length-take-le}
use Rattle.std.proofs.lemmas.Bool.{ltb-false, ltb-true}
use Rattle.std.specs.Prelude.{nat_lt, slice_range}
use Rattle.std.specs.Io.KnownBytes.{Keeps, Consumes, IsAtEnd}
use Rattle.orc_journal_text.specs.Pieces.{MayCome}

pub keeps_consumes : (a b c : Option (List ℕ)) (bs : List ℕ) → Keeps a b → Consumes b c bs → Consumes a c bs
keeps_consumes None b c bs p q = tt
keeps_consumes (Some x) None c bs p q = absurd p
keeps_consumes (Some x) (Some y) None bs p q = absurd q
keeps_consumes (Some x) (Some y) (Some z) bs p q = sym p ∙ q

-- ---- what may still come

pub may_come : (a b : Option (List ℕ)) (piece bytes : List ℕ) → Consumes a b piece → MayCome b bytes → MayCome a (piece ++ bytes)
may_come None b piece bytes p m = tt
may_come (Some x) None piece bytes p m = absurd p
may_come (Some x) (Some y) piece bytes p m = ap (λ (t : List ℕ). piece ++ t) m ∙ sym p

pub some_may_come : (a : Option (List ℕ)) → (bytes : List ℕ) × MayCome a bytes
some_may_come None = ([], tt)
some_may_come (Some x) = (x, refl)

pub none_may_come : (a : Option (List ℕ)) → IsAtEnd a → MayCome a []
none_may_come None end = tt
none_may_come (Some x) end = sym end

pub all_has_come : (a b : Option (List ℕ)) (piece : List ℕ) → Consumes a b piece → IsAtEnd b → MayCome a piece
all_has_come a b piece p end = subst (MayCome a) (append-nil piece) (may_come a b piece [] p (none_may_come b end))

-- the first byte of what isn't used stays the first
pub still_first : (rest piece : List ℕ) → 0 < length rest → take 1 (take 1 rest ++ piece) ≡ take 1 rest
still_first [] piece some = absurd (omega (arith, some))
still_first (c ∷ cs) piece some = refl

-- ---- the room

-- what stands behind the first k of the bytes from start to end
pub behind : (items : List ℕ) (start end k : ℕ) → start + k ≤ end → slice_range items (start + k) end ≡ drop k (slice_range items start end)
behind items start end k fits =
    let left = end - (start + k) in
    let all : end - start ≡ k + left = omega (arith, fits) in
    ap (take left) (sym (drop-drop k start items)) ∙ sym (drop-take k left (drop start items)) ∙ ap (λ (n : ℕ). drop k (take n (drop start items))) (sym all)

pub length_between : (items : List ℕ) (start end : ℕ) → start ≤ end → end ≤ length items → length (slice_range items start end) ≡ end - start
length_between items start end order inside = length-take-le (end - start) (drop start items) (omega (arith, order, inside, length-drop start items))

-- all but the last bytes are used
pub used : (items : List ℕ) (start end count : ℕ) → start ≤ end → end ≤ length items → count ≤ length (slice_range items start end)
    → slice_range items (end - count) end ≡ drop (length (slice_range items start end) - count) (slice_range items start end)
used items start end count order inside few =
    let long = length_between items start end order inside in
    let k = length (slice_range items start end) - count in
    let at : start + k ≡ end - count = omega (arith, order, few, long) in
    ap (λ (n : ℕ). slice_range items n end) (sym at) ∙ behind items start end k (omega (arith, order, few, long))

-- what stands behind the front is left where as many bytes are kept
pub kept_behind : (rest front behind : List ℕ) → rest ≡ front ++ behind → drop (length rest - length behind) rest ≡ behind
kept_behind rest front behind is =
    let before : length rest - length behind ≡ length front = omega (arith, ap length is, length-append front behind) in
    ap (λ (n : ℕ). drop n rest) before ∙ ap (drop (length front)) is ∙ drop-append_seam front behind

-- n bytes stand behind those that were kept
pub grown : (room before : List ℕ) (kept n : ℕ) → kept + n ≤ length room → take kept room ≡ before → slice_range room 0 (kept + n) ≡ before ++ take n (drop kept room)
grown room before kept n inside front =
    let all : kept + n - 0 ≡ kept + n = omega arith in
    ap (λ (m : ℕ). take m room) all ∙ take-add kept n room ∙ ap (λ (t : List ℕ). t ++ take n (drop kept room)) front

pub as_many : (room : List ℕ) (kept n : ℕ) → kept + n ≤ length room → length (take n (drop kept room)) ≡ n
as_many room kept n inside = length-take-le n (drop kept room) (omega (arith, inside, length-drop kept room))

pub some_came : (piece : List ℕ) (n : ℕ) → length piece ≡ n → nat_lt 0 n ≡ true → 0 < length piece
some_came piece n long some = omega (arith, long, ltb-true 0 n some)

pub none_came : (piece : List ℕ) (n : ℕ) → length piece ≡ n → nat_lt 0 n ≡ false → (piece ≡ []) × (n ≡ 0)
none_came piece n long none =
    let no = ltb-false 0 n none in
    let zero : n ≡ 0 = omega (arith, no) in
    (no_bytes piece (long ∙ zero), zero) where
      no_bytes : (xs : List ℕ) → length xs ≡ 0 → xs ≡ []
      no_bytes [] e = refl
      no_bytes (x ∷ xs) e = absurd (omega (arith, e))
