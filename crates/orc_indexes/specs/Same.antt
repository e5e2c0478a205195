-- Lists that have the same items, in any order.
use Rattle.std.specs.Prelude.{◌≡◌, ℕ, ◌+◌, List, [], ◌∷◌, Bool, cond, nat_eq}

-- what the items weigh in all; with 1 for those that pass a test and 0 for the others it counts those that pass
abbrev pub weight : {X : Type 0} → (X → ℕ) → List X → ℕ
weight w [] = 0
weight w (x ∷ xs) = w x + weight w xs

-- each item stands in both lists equally often: whatever the items weigh, both lists weigh the same
abbrev pub Same : {X : Type 0} → List X → List X → Type 0
Same {X} xs ys = (w : X → ℕ) → weight w xs ≡ weight w ys

-- the weight w, but 0 for items that don't pass the test p
abbrev pub only : {X : Type 0} → (X → Bool) → (X → ℕ) → X → ℕ
only p w x = cond (p x) (w x) 0

-- the weight w, but 0 for items that pass the test p
abbrev pub but : {X : Type 0} → (X → Bool) → (X → ℕ) → X → ℕ
but p w x = cond (p x) 0 (w x)

-- none passes a test
abbrev pub None : {X : Type 0} → (X → Bool) → List X → Type 0
None p xs = weight (only p (λ x. 1)) xs ≡ 0

-- 1 if the numbers are the same, else 0
abbrev pub is_this : ℕ → ℕ → ℕ
is_this i j = cond (nat_eq i j) 1 0
