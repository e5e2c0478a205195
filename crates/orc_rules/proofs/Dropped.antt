-- The calls that a step drops, in rising order.
use Rattle.std.proofs.Common.{◌≡◌, ℕ, ◌<◌, List, [], ◌∷◌, refl, sym, ap, ◌∙◌, subst, Bool, true, false, inl, inr, ◌⊎◌, ⊎_elim, arith}
use Rattle.std.specs.Prelude.{cond, nat_eq, nat_lt}
use Rattle.std.proofs.lemmas.Bool.{eqb-true, ltb-true, ltb-false}
use Rattle.orc_rules.specs.Term.{Term, pending_of}
use Rattle.orc_rules.specs.Step.{calls, returns, binds, loses, publishes, silent, opens}
use Rattle.orc_rules.specs.Timed.{Context, IsIn, IsRising, CancelsAfter}
use Rattle.orc_rules.specs.Lost.{CancelsExist}
use Rattle.orc_rules.proofs.Late.{is_among, among, is_in, from_cond}

-- k in a rising list, once
abbrev insert : ℕ → List ℕ → List ℕ
insert k [] = k ∷ []
insert k (j ∷ js) = cond (nat_lt k j) (k ∷ j ∷ js) (cond (nat_eq k j) (j ∷ js) (j ∷ insert k js))

abbrev dropped : List ℕ → List ℕ → List ℕ
dropped [] after = []
dropped (k ∷ ks) after = cond (is_among k after) (dropped ks after) (insert k (dropped ks after))

eqb_not : (k j : ℕ) → nat_eq k j ≡ false → (k ≡ j) → ⊥
eqb_not k j h e = cc (among k (j ∷ []) (inl e), ap (λ b. cond b true false) h)

rising_after : (j k : ℕ) (js : List ℕ) → j < k → IsRising (j ∷ js) → IsRising (j ∷ insert k js)
rising_after j k [] lt r = (lt, tt)
rising_after j k (i ∷ is) lt r =
    from_cond (nat_lt k i) (IsRising (j ∷ insert k (i ∷ is)))
    (λ h. subst (λ b. IsRising (j ∷ cond b (k ∷ i ∷ is) (cond (nat_eq k i) (i ∷ is) (i ∷ insert k is)))) (sym h) (lt, (ltb-true k i h, r.1)))
    (λ h. subst (λ b. IsRising (j ∷ cond b (k ∷ i ∷ is) (cond (nat_eq k i) (i ∷ is) (i ∷ insert k is)))) (sym h)
    (from_cond (nat_eq k i) (IsRising (j ∷ cond (nat_eq k i) (i ∷ is) (i ∷ insert k is)))
    (λ g. subst (λ b. IsRising (j ∷ cond b (i ∷ is) (i ∷ insert k is))) (sym g) r)
    (λ g. subst (λ b. IsRising (j ∷ cond b (i ∷ is) (i ∷ insert k is))) (sym g) (r.0, rising_after i k is (omega (arith, ltb-false k i h, eqb_not k i g)) r.1))))

rising : (k : ℕ) (js : List ℕ) → IsRising js → IsRising (insert k js)
rising k [] r = tt
rising k (i ∷ is) r =
    from_cond (nat_lt k i) (IsRising (insert k (i ∷ is)))
    (λ h. subst (λ b. IsRising (cond b (k ∷ i ∷ is) (cond (nat_eq k i) (i ∷ is) (i ∷ insert k is)))) (sym h) (ltb-true k i h, r))
    (λ h. subst (λ b. IsRising (cond b (k ∷ i ∷ is) (cond (nat_eq k i) (i ∷ is) (i ∷ insert k is)))) (sym h)
    (from_cond (nat_eq k i) (IsRising (cond (nat_eq k i) (i ∷ is) (i ∷ insert k is)))
    (λ g. subst (λ b. IsRising (cond b (i ∷ is) (i ∷ insert k is))) (sym g) r)
    (λ g. subst (λ b. IsRising (cond b (i ∷ is) (i ∷ insert k is))) (sym g) (rising_after i k is (omega (arith, ltb-false k i h, eqb_not k i g)) r))))

-- what is in the list with k
in_insert : (w k : ℕ) (js : List ℕ) → (w ≡ k) ⊎ IsIn w js → IsIn w (insert k js)
in_insert w k [] o = o
in_insert w k (i ∷ is) o =
    from_cond (nat_lt k i) (IsIn w (insert k (i ∷ is)))
    (λ h. subst (λ b. IsIn w (cond b (k ∷ i ∷ is) (cond (nat_eq k i) (i ∷ is) (i ∷ insert k is)))) (sym h) o)
    (λ h. subst (λ b. IsIn w (cond b (k ∷ i ∷ is) (cond (nat_eq k i) (i ∷ is) (i ∷ insert k is)))) (sym h)
    (from_cond (nat_eq k i) (IsIn w (cond (nat_eq k i) (i ∷ is) (i ∷ insert k is)))
    (λ g. subst (λ b. IsIn w (cond b (i ∷ is) (i ∷ insert k is))) (sym g) (⊎_elim (λ e. inl (e ∙ eqb-true k i g)) (λ j. j) o))
    (λ g. subst (λ b. IsIn w (cond b (i ∷ is) (i ∷ insert k is))) (sym g)
    (⊎_elim (λ e. inr (in_insert w k is (inl e))) (λ j. ⊎_elim (λ e. inl e) (λ l. inr (in_insert w k is (inr l))) j) o))))

from_insert : (w k : ℕ) (js : List ℕ) → IsIn w (insert k js) → (w ≡ k) ⊎ IsIn w js
from_insert w k [] o = o
from_insert w k (i ∷ is) o =
    from_cond (nat_lt k i) ((w ≡ k) ⊎ IsIn w (i ∷ is))
    (λ h. subst (λ b. IsIn w (cond b (k ∷ i ∷ is) (cond (nat_eq k i) (i ∷ is) (i ∷ insert k is)))) h o)
    (λ h. let o' = subst (λ b. IsIn w (cond b (k ∷ i ∷ is) (cond (nat_eq k i) (i ∷ is) (i ∷ insert k is)))) h o in
    from_cond (nat_eq k i) ((w ≡ k) ⊎ IsIn w (i ∷ is))
    (λ g. inr (subst (λ b. IsIn w (cond b (i ∷ is) (i ∷ insert k is))) g o'))
    (λ g. ⊎_elim (λ e. inr (inl e)) (λ l. ⊎_elim (λ e. inl e) (λ z. inr (inr z)) (from_insert w k is l)) (subst (λ b. IsIn w (cond b (i ∷ is) (i ∷ insert k is))) g o')))

dropped_rising : (ks after : List ℕ) → IsRising (dropped ks after)
dropped_rising [] after = tt
dropped_rising (k ∷ ks) after =
    from_cond (is_among k after) (IsRising (dropped (k ∷ ks) after))
    (λ h. subst (λ b. IsRising (cond b (dropped ks after) (insert k (dropped ks after)))) (sym h) (dropped_rising ks after))
    (λ h. subst (λ b. IsRising (cond b (dropped ks after) (insert k (dropped ks after)))) (sym h) (rising k (dropped ks after) (dropped_rising ks after)))

dropped_each : (ks after : List ℕ) (w : ℕ) → IsIn w (dropped ks after) → IsIn w ks × (IsIn w after → ⊥)
dropped_each [] after w i = elim i [ ]
dropped_each (k ∷ ks) after w i =
    from_cond (is_among k after) (IsIn w (k ∷ ks) × (IsIn w after → ⊥))
    (λ h. let d = dropped_each ks after w (subst (λ b. IsIn w (cond b (dropped ks after) (insert k (dropped ks after)))) h i) in (inr d.0, d.1))
    (λ h. ⊎_elim (λ e. (inl e, λ j. cc (among k after (subst (λ v. IsIn v after) e j), h))) (λ l. let d = dropped_each ks after w l in (inr d.0, d.1))
    (from_insert w k (dropped ks after) (subst (λ b. IsIn w (cond b (dropped ks after) (insert k (dropped ks after)))) h i)))

dropped_all : (ks after : List ℕ) (w : ℕ) → IsIn w ks → (IsIn w after → ⊥) → IsIn w (dropped ks after)
dropped_all [] after w i out = elim i [ ]
dropped_all (k ∷ ks) after w i out =
    from_cond (is_among k after) (IsIn w (dropped (k ∷ ks) after))
    (λ h. subst (λ b. IsIn w (cond b (dropped ks after) (insert k (dropped ks after)))) (sym h)
    (⊎_elim (λ e. absurd (out (subst (λ v. IsIn v after) (sym e) (is_in k after h)))) (λ j. dropped_all ks after w j out) i))
    (λ h. subst (λ b. IsIn w (cond b (dropped ks after) (insert k (dropped ks after)))) (sym h)
    (in_insert w k (dropped ks after) (⊎_elim (λ e. inl e) (λ j. inr (dropped_all ks after w j out)) i)))

-- after a bind: the list where cancels are recorded, and else nothing
after_bind : (x : Context) (b : Bool) → Context.cancels x ≡ b → (c : ℕ) (v : _) (t u : Term) → (to_cancel : List ℕ) × CancelsAfter x (binds c v) t u to_cancel
after_bind x true e c v t u = (dropped (pending_of t) (pending_of u), (λ y. record { rising = dropped_rising (pending_of t) (pending_of u); each = dropped_each (pending_of t) (pending_of u); all = dropped_all (pending_of t) (pending_of u) }, λ n. cc (e, n)))
after_bind x false e c v t u = ([], (λ y. cc (e, y), λ n. refl))

pub cancels_exist : CancelsExist
cancels_exist x (binds c v) t u = after_bind x (Context.cancels x) refl c v t u
cancels_exist x (calls k m args cs) t u = ([], refl)
cancels_exist x (returns k a) t u = ([], refl)
cancels_exist x (loses c) t u = ([], refl)
cancels_exist x (publishes v) t u = ([], refl)
cancels_exist x silent t u = ([], refl)
cancels_exist x (opens c) t u = ([], refl)
