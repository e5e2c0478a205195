-- Lists of which an item is written over, or to which one is added.
use Rattle.std.proofs.Common.{◌≡◌, ◌+◌, ℕ, zero, suc, List, [], ◌∷◌, ◌++◌, refl, ap, arith, Option, Some, None, length}
use Rattle.std.specs.Prelude.{slice_get, slice_set}
use Rattle.orc_indexes.specs.Same.{weight}

abbrev pub value_or : {X : Type 0} → X → Option X → X
value_or d (Some z) = z
value_or d None = d

-- one item is written over another
pub weight-set : {X : Type 0} (w : X → ℕ) (xs : List X) (k : ℕ) (x y : X) → slice_get xs k ≡ Some x → weight w (slice_set xs k y) + w x ≡ weight w xs + w y
weight-set w [] k x y h = cc h
weight-set w (z ∷ xs) zero x y h = omega (arith, ap (λ o. w (value_or z o)) h)
weight-set w (z ∷ xs) (suc k) x y h = omega (arith, weight-set w xs k x y h)

pub count-weight : {X : Type 0} (xs : List X) → length xs ≡ weight (λ x. 1) xs
count-weight [] = refl
count-weight (x ∷ xs) = omega (arith, count-weight xs)

pub weight-end : {X : Type 0} (w : X → ℕ) (xs : List X) (y : X) → weight w (xs ++ y ∷ []) ≡ weight w xs + w y
weight-end w [] y = omega arith
weight-end w (x ∷ xs) y = omega (arith, weight-end w xs y)

-- what stands at a place afterwards
pub set-there : {X : Type 0} (xs : List X) (k : ℕ) (x y : X) → slice_get xs k ≡ Some x → slice_get (slice_set xs k y) k ≡ Some y
set-there [] k x y h = cc h
set-there (z ∷ xs) zero x y h = refl
set-there (z ∷ xs) (suc k) x y h = set-there xs k x y h

pub set-elsewhere : {X : Type 0} (xs : List X) (k j : ℕ) (y : X) → (j ≡ k → ⊥) → slice_get (slice_set xs k y) j ≡ slice_get xs j
set-elsewhere [] k j y off = refl
set-elsewhere (z ∷ xs) zero zero y off = absurd (off refl)
set-elsewhere (z ∷ xs) zero (suc j) y off = refl
set-elsewhere (z ∷ xs) (suc k) zero y off = refl
set-elsewhere (z ∷ xs) (suc k) (suc j) y off = set-elsewhere xs k j y (λ e. off (ap suc e))

pub got-end : {X : Type 0} (xs : List X) (y : X) → slice_get (xs ++ y ∷ []) (length xs) ≡ Some y
got-end [] y = refl
got-end (x ∷ xs) y = got-end xs y

pub got-more : {X : Type 0} (xs : List X) (y : X) (k : ℕ) (x : X) → slice_get xs k ≡ Some x → slice_get (xs ++ y ∷ []) k ≡ Some x
got-more [] y k x h = cc h
got-more (z ∷ xs) y zero x h = h
got-more (z ∷ xs) y (suc k) x h = got-more xs y k x h
