-- Tokens in slots.
use Rattle.std.proofs.Common.{◌≡◌, ◌+◌, ℕ, zero, suc, List, [], ◌∷◌, ◌++◌, refl, sym, ap, ◌∙◌, subst, arith, inl, inr, Bool, true, false, cond, Some, ◌≤◌, length}
use Rattle.std.specs.Prelude.{slice_get, slice_set, nat_lt}
use Rattle.std.proofs.lemmas.Bool.{lt-ltb}
use Rattle.orc_rules.specs.Timed.{IsIn}
use Rattle.orc_indexes.specs.Same.{weight, only}
use Rattle.orc_indexes.proofs.Lists.{value_or, weight-set, weight-end}
use Rattle.orc_tables.specs.Tokens.{live, is_live, IsHeld}
use Rattle.orc_tables.specs.declared.records.Token.{Token}

-- the tokens weigh what the slots do that aren't free
pub weight-live : (w : Token → ℕ) (ts : List Token) → weight w (live ts) ≡ weight (only is_live w) ts
weight-live w [] = refl
weight-live w (t ∷ ts) = go (is_live t) (weight-live w ts)
  where
    go : (b : Bool) → weight w (live ts) ≡ weight (only is_live w) ts → weight w (cond b (t ∷ live ts) (live ts)) ≡ cond b (w t) 0 + weight (only is_live w) ts
    go true ih = ap (λ n. w t + n) ih
    go false ih = omega (arith, ih)

pub live-one : (w : Token → ℕ) (t : Token) → 1 ≤ t.serial → only is_live w t ≡ w t
live-one w t h = ap {B = ℕ} (λ b. cond b (w t) 0) (lt-ltb 0 t.serial h)

pub free-none : (w : Token → ℕ) (t : Token) → t.serial ≡ 0 → only is_live w t ≡ 0
free-none w t h = ap {B = ℕ} (λ n. cond (nat_lt 0 n) (w t) 0) h

pub replaced : (w : Token → ℕ) (ts : List Token) (k : ℕ) (t u : Token) → IsHeld ts k t → 1 ≤ u.serial → weight w (live (slice_set ts k u)) + w t ≡ weight w (live ts) + w u
replaced w ts k t u h s = omega (arith, weight-set (only is_live w) ts k t u h.0, weight-live w (slice_set ts k u), weight-live w ts, live-one w t h.1, live-one w u s)

pub removed : (w : Token → ℕ) (ts : List Token) (k : ℕ) (t u : Token) → IsHeld ts k t → u.serial ≡ 0 → weight w (live (slice_set ts k u)) + w t ≡ weight w (live ts)
removed w ts k t u h s = omega (arith, weight-set (only is_live w) ts k t u h.0, weight-live w (slice_set ts k u), weight-live w ts, live-one w t h.1, free-none w u s)

pub filled : (w : Token → ℕ) (ts : List Token) (k : ℕ) (t u : Token) → slice_get ts k ≡ Some t → t.serial ≡ 0 → 1 ≤ u.serial → weight w (live (slice_set ts k u)) ≡ weight w (live ts) + w u
filled w ts k t u h f s = omega (arith, weight-set (only is_live w) ts k t u h, weight-live w (slice_set ts k u), weight-live w ts, free-none w t f, live-one w u s)

pub pushed : (w : Token → ℕ) (ts : List Token) (u : Token) → 1 ≤ u.serial → weight w (live (ts ++ u ∷ [])) ≡ weight w (live ts) + w u
pushed w ts u s = omega (arith, weight-live w (ts ++ u ∷ []), weight-end (only is_live w) ts u, weight-live w ts, live-one w u s)

-- what is in a free slot isn't what is in another
pub not-there : (ts : List Token) (k j : ℕ) (f t : Token) → slice_get ts k ≡ Some f → f.serial ≡ 0 → IsHeld ts j t → j ≡ k → ⊥
not-there ts k j f t h z i e =
    let same : Some f ≡ Some t = sym h ∙ ap (slice_get ts) (sym e) ∙ i.0 in
    let is : f.serial ≡ t.serial = ap (λ o. Token.serial (value_or f o)) same in
    omega (arith, z, is, i.1)

pub live-in : (ts : List Token) (k : ℕ) (t : Token) → IsHeld ts k t → IsIn t (live ts)
live-in [] k t h = cc h.0
live-in (u ∷ ts) zero t h = subst (λ b. IsIn t (cond b (u ∷ live ts) (live ts))) (sym (lt-ltb 0 u.serial some)) (inl (sym same))
  where
    same : u ≡ t
    same = ap (value_or u) h.0

    some : 1 ≤ u.serial
    some = omega (arith, h.1, ap (λ (z : Token). z.serial) same)
live-in (u ∷ ts) (suc k) t h = go (is_live u) (live-in ts k t h)
  where
    go : (b : Bool) → IsIn t (live ts) → IsIn t (cond b (u ∷ live ts) (live ts))
    go true ih = inr ih
    go false ih = ih

-- no more tokens than slots
pub live-short : (ts : List Token) → length (live ts) ≤ length ts
live-short [] = omega arith
live-short (t ∷ ts) = go (is_live t) (live-short ts)
  where
    go : (b : Bool) → length (live ts) ≤ length ts → length (cond b (t ∷ live ts) (live ts)) ≤ length (t ∷ ts)
    go true ih = omega (arith, ih)
    go false ih = omega (arith, ih)
