-- Where a line ends, by a search behind its beginning.
use Rattle.std.proofs.Common.{◌≡◌, ℕ, ◌+◌, ◌-◌, ◌<◌, ◌≤◌, Bool, true, false, List, length, drop, get_or, slice_index, refl, sym, ap, subst, ◌∙◌, arith, length-drop}
use Rattle.std.specs.Prelude.{IsTrue, IsFalse, not, ◌==◌}
use Rattle.std.proofs.lemmas.List.{get_or-drop}
use Rattle.memchr.specs.Find.{is_byte, NoneBefore, Nowhere, Passes}
use Rattle.orc_lex.specs.Lexing.{is_in_line, IsRun}

never_true : (t : Bool) → (t ≡ true → ⊥) → not t ≡ true
never_true true never = absurd (never refl)
never_true false never = refl

-- no byte before a place ends the line
no_end : (src : List ℕ) (from to : ℕ) → Nowhere (Passes (is_byte 10) (drop from src)) 0 to → (k : ℕ) → k < from + to → from ≤ k → IsTrue (is_in_line (slice_index src k))
no_end src from to nowhere k lt le =
    let place : from + (k - from) ≡ k = omega (arith, le) in
    let same : slice_index (drop from src) (k - from) ≡ slice_index src k = get_or-drop from src (k - from) 0 ∙ ap (slice_index src) place in
    never_true (slice_index src k == 10) (λ is. nowhere (k - from) (omega arith) (omega (arith, lt, le)) (ap (λ b. b == 10) same ∙ is))

-- the line ends where the search behind its beginning found the byte
pub line_there : (src rest : List ℕ) (from count : ℕ) → drop from src ≡ rest → from ≤ length src → NoneBefore (Passes (is_byte 10) rest) 0 (length rest) count → Passes (is_byte 10) rest count
    → IsRun is_in_line src from (from + count)
line_there src rest from count same within none is =
    let before : Nowhere (Passes (is_byte 10) (drop from src)) 0 count = subst (λ (r : List ℕ). Nowhere (Passes (is_byte 10) r) 0 count) (sym same) none.before in
    let high : count < length (drop from src) = subst (λ (r : List ℕ). count < length r) (sym same) none.high in
    let there : Passes (is_byte 10) (drop from src) count = subst (λ (r : List ℕ). Passes (is_byte 10) r count) (sym same) is in
    record {
      low = omega arith;
      within = omega (arith, high, length-drop from src, within);
      each = no_end src from count before;
      longest = λ lt. ap not (ap (λ b. b == 10) (sym (get_or-drop from src count 0)) ∙ there);
    }

-- or where the text does
pub line_last : (src rest : List ℕ) (from : ℕ) → drop from src ≡ rest → from ≤ length src → Nowhere (Passes (is_byte 10) rest) 0 (length rest) → IsRun is_in_line src from (length src)
line_last src rest from same within nowhere =
    let none : Nowhere (Passes (is_byte 10) (drop from src)) 0 (length (drop from src)) = subst (λ (r : List ℕ). Nowhere (Passes (is_byte 10) r) 0 (length r)) (sym same) nowhere in
    record {
      low = within;
      within = omega arith;
      each = λ k lt le. no_end src from (length (drop from src)) none k (omega (arith, lt, le, length-drop from src)) le;
      longest = λ lt. absurd (omega (arith, lt));
    }
