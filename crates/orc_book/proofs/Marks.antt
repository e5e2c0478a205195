-- By slots, which tokens are kept.
use Rattle.std.proofs.Common.{◌≡◌, ◌≤◌, ◌<◌, ℕ, zero, suc, List, [], ◌∷◌, ◌++◌, length, take, replicate, Bool, if◌then◌else◌, true, false, refl, sym, ap, ◌∙◌, arith}
use Rattle.std.proofs.lemmas.List.{take_all}
use Rattle.std.specs.Prelude.{slice_set}
use Rattle.orc_book.specs.Held.{mark_at}

zeros : (m i : ℕ) → mark_at (replicate m 0) i ≡ 0
zeros zero i = refl
zeros (suc m) zero = refl
zeros (suc m) (suc i) = zeros m i

more_zeros : (ms : List ℕ) (m i : ℕ) → mark_at (ms ++ replicate m 0) i ≡ mark_at ms i
more_zeros [] m i = zeros m i
more_zeros (x ∷ ms) m zero = refl
more_zeros (x ∷ ms) m (suc i) = more_zeros ms m i

-- more slots have no token
pub resized-marks : (b : Bool) (ms ms' : List ℕ) (n m : ℕ) → ms' ≡ (if b then take n ms ++ replicate m 0 else ms) → length ms ≤ n → (i : ℕ) → mark_at ms' i ≡ mark_at ms i
resized-marks true ms ms' n m is le i = ap (λ z. mark_at z i) (is ∙ ap (λ z. z ++ replicate m 0) (take_all n ms le)) ∙ more_zeros ms m i
resized-marks false ms ms' n m is le i = ap (λ z. mark_at z i) is

set_here : (ms : List ℕ) (slot serial : ℕ) → slot < length ms → mark_at (slice_set ms slot serial) slot ≡ serial
set_here [] slot serial lt = absurd (omega (arith, lt))
set_here (x ∷ ms) zero serial lt = refl
set_here (x ∷ ms) (suc slot) serial lt = set_here ms slot serial (omega (arith, lt))

set_off : (ms : List ℕ) (slot serial i : ℕ) → (i ≡ slot → ⊥) → mark_at (slice_set ms slot serial) i ≡ mark_at ms i
set_off [] slot serial i off = refl
set_off (x ∷ ms) zero serial zero off = absurd (off refl)
set_off (x ∷ ms) zero serial (suc i) off = refl
set_off (x ∷ ms) (suc slot) serial zero off = refl
set_off (x ∷ ms) (suc slot) serial (suc i) off = set_off ms slot serial i (λ e. off (ap suc e))
