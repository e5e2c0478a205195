-- Elements of a list that was set at a place or extended.
use Rattle.std.proofs.Common.{◌≡◌, ◌+◌, ℕ, zero, suc, List, [], ◌∷◌, ◌++◌, length, Option, Some, None, refl, sym, ap, ◌∙◌, inl, inr, ◌⊎◌, ⊎_elim, arith}
use Rattle.std.specs.Prelude.{slice_get, slice_set}
use Rattle.orc_term.specs.declared.arena.Node.{Node}
use Rattle.orc_term.specs.Arena.{hits, living, living_kind}
use Rattle.orc_term.proofs.Trees.{hits-both, hit, missed}

pub get-set_same : {X : Type 0} (xs : List X) (i : ℕ) (v x : X) → slice_get xs i ≡ Some x → slice_get (slice_set xs i v) i ≡ Some v
get-set_same [] i v x h = cc h
get-set_same (y ∷ xs) zero v x h = refl
get-set_same (y ∷ xs) (suc i) v x h = get-set_same xs i v x h

pub get-set_other : {X : Type 0} (xs : List X) (i j : ℕ) (v : X) → (j ≡ i → ⊥) → slice_get (slice_set xs i v) j ≡ slice_get xs j
get-set_other [] i j v h = refl
get-set_other (y ∷ xs) zero zero v h = absurd (h refl)
get-set_other (y ∷ xs) zero (suc j) v h = refl
get-set_other (y ∷ xs) (suc i) zero v h = refl
get-set_other (y ∷ xs) (suc i) (suc j) v h = get-set_other xs i j v (λ e. h (ap suc e))

pub get-append : {X : Type 0} (xs ys : List X) (i : ℕ) (x : X) → slice_get xs i ≡ Some x → slice_get (xs ++ ys) i ≡ Some x
get-append [] ys i x h = cc h
get-append (w ∷ xs) ys zero x h = h
get-append (w ∷ xs) ys (suc i) x h = get-append xs ys i x h

pub get-end : {X : Type 0} (xs ys : List X) (i : ℕ) → i ≡ length xs → slice_get (xs ++ ys) i ≡ slice_get ys 0
get-end [] ys zero e = refl
get-end [] ys (suc i) e = absurd (omega (arith, e))
get-end (x ∷ xs) ys zero e = absurd (omega (arith, e))
get-end (x ∷ xs) ys (suc i) e = get-end xs ys i (omega (arith, e))

of_some : {X : Type 0} → X → Option X → X
of_some d (Some x) = x
of_some d None = d

-- an element of a list that was extended
pub get-more : {X : Type 0} (xs : List X) (y : X) (i : ℕ) (r : X) → slice_get (xs ++ y ∷ []) i ≡ Some r → (slice_get xs i ≡ Some r) ⊎ ((i ≡ length xs) × (y ≡ r))
unfolding of_some
get-more [] y zero r h = inr (refl, ap (of_some y) h)
get-more [] y (suc i) r h = cc h
get-more (x ∷ xs) y zero r h = inl h
get-more (x ∷ xs) y (suc i) r h = ⊎_elim inl (λ e. inr (ap suc e.0, e.1)) (get-more xs y i r h)

pub living-set : (xs : List Node) (i u : ℕ) (b y : Node) → slice_get xs i ≡ Some y → living_kind b.kind ≡ living_kind y.kind → living (slice_get (slice_set xs i b) u) ≡ living (slice_get xs u)
living-set [] i u b y h e = cc h
living-set (x ∷ xs) zero zero b y h e = e ∙ sym (ap living h)
living-set (x ∷ xs) zero (suc u) b y h e = refl
living-set (x ∷ xs) (suc i) zero b y h e = refl
living-set (x ∷ xs) (suc i) (suc u) b y h e = living-set xs i u b y h e

hits-suc : (u n : ℕ) → hits (suc u) (suc n) ≡ hits u n
hits-suc u n = ⊎_elim (λ e. hits-same (suc u) (suc n) (ap suc e) ∙ sym (hits-same u n e)) (λ z. missed (suc u) (suc n) (λ e. omega (arith, z, hits-same u n (omega (arith, e)))) ∙ sym z) (hits-both u n)
  where
    hits-same : (a b : ℕ) → a ≡ b → hits a b ≡ 1
    hits-same a b e = sym (ap (λ c. hits a c) e) ∙ hit a

pub living-push : (xs : List Node) (u : ℕ) (b : Node) → living_kind b.kind ≡ 1 → living (slice_get (xs ++ b ∷ []) u) ≡ living (slice_get xs u) + hits u (length xs)
living-push [] zero b e = omega (arith, e, hit 0)
living-push [] (suc u) b e = omega (arith, missed (suc u) 0 (λ h. omega (arith, h)))
living-push (x ∷ xs) zero b e = omega (arith, missed 0 (suc (length xs)) (λ h. omega (arith, h)))
living-push (x ∷ xs) (suc u) b e = living-push xs u b e ∙ ap (λ z. living (slice_get xs u) + z) (sym (hits-suc u (length xs)))
