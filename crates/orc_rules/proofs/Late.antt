-- Tests on lists of calls: which are due later, and which a bind drops.
use Rattle.std.proofs.Common.{◌≡◌, ℕ, ◌+◌, ◌<◌, List, [], ◌∷◌, refl, sym, ap, subst, Bool, true, false, inl, inr}
use Rattle.std.specs.Prelude.{◌&&◌, cond, not, nat_eq, nat_lt}
use Rattle.std.proofs.lemmas.Bool.{eq-eqb, eqb-true, ltb-true}
use Rattle.orc_rules.specs.declared.value.Answer.{Answer}
use Rattle.orc_rules.specs.declared.value.Found.{Found}
use Rattle.orc_rules.specs.declared.value.Found.TheVariants.{After, Never}
use Rattle.orc_rules.specs.Sites.{Site}
use Rattle.orc_rules.specs.Timed.{CallMade, IsIn, IsDue, says_of}

-- due after this time, or never
abbrev pub is_late : ℕ → ℕ → Found → Bool
is_late now at Never = true
is_late now at (After a d) = nat_lt now (at + d)

abbrev pub is_among : ℕ → List ℕ → Bool
is_among k [] = false
is_among k (j ∷ ks) = cond (nat_eq k j) true (is_among k ks)

-- those of the calls made that are among ks are due after this time, or never
abbrev pub all_late : ℕ → List Site → List ℕ → List CallMade → Bool
all_late now sites ks [] = true
all_late now sites ks (m ∷ ms) = cond (is_among (CallMade.number m) ks) (is_late now (CallMade.at m) (says_of sites m)) true && all_late now sites ks ms

both_true : (a b : Bool) → (a && b) ≡ true → (a ≡ true) × (b ≡ true)
both_true true b h = (refl, h)
both_true false b h = cc h

cond_true : (a b : Bool) → b ≡ true → cond a true b ≡ true
cond_true true b h = refl
cond_true false b h = h

pub among : (k : ℕ) (ks : List ℕ) → IsIn k ks → is_among k ks ≡ true
among k [] h = elim h [ ]
among k (j ∷ ks) (inl e) = ap (λ b. cond b true (is_among k ks)) (eq-eqb k j e)
among k (j ∷ ks) (inr h) = cond_true (nat_eq k j) (is_among k ks) (among k ks h)

pub from_cond : (b : Bool) (A : Type 0) → (b ≡ true → A) → (b ≡ false → A) → A
from_cond true A f g = f refl
from_cond false A f g = g refl

pub is_in : (k : ℕ) (ks : List ℕ) → is_among k ks ≡ true → IsIn k ks
is_in k [] h = cc h
is_in k (j ∷ ks) h =
    from_cond (nat_eq k j) (IsIn k (j ∷ ks)) (λ e. inl (eqb-true k j e)) (λ e. inr (is_in k ks (subst (λ b. cond b true (is_among k ks) ≡ true) e h)))

late_by : (now : ℕ) (sites : List Site) (ks : List ℕ) (made : List CallMade) (by : CallMade) (b : Answer) (d : ℕ) → all_late now sites ks made ≡ true → IsIn by made → IsIn (CallMade.number by) ks → says_of sites by ≡ After b d → nat_lt now (CallMade.at by + d) ≡ true
late_by now sites ks [] by b d h i j e = elim i [ ]
late_by now sites ks (m ∷ ms) by b d h (inl s) j e =
    let t = subst (λ (w : CallMade). cond (is_among (CallMade.number w) ks) (is_late now (CallMade.at w) (says_of sites w)) true ≡ true) (sym s) (both_true _ _ h).0 in
    let u = subst (λ z. cond z (is_late now (CallMade.at by) (says_of sites by)) true ≡ true) (among (CallMade.number by) ks j) t in
    subst (λ f. is_late now (CallMade.at by) f ≡ true) e u
late_by now sites ks (m ∷ ms) by b d h (inr i) j e = late_by now sites ks ms by b d (both_true _ _ h).1 i j e

pub late : (now : ℕ) (sites : List Site) (ks : List ℕ) (made : List CallMade) (k : ℕ) (b : Answer) (t : ℕ) → all_late now sites ks made ≡ true → IsIn k ks → IsDue sites made k b t → now < t
late now sites ks made k b t h i due =
    let n = late_by now sites ks made due.by b due.delay h due.is_made (subst (λ w. IsIn w ks) (sym due.is_k) i) due.says in
    subst (λ w. now < w) (sym due.sum) (ltb-true now (CallMade.at due.by + due.delay) n)

-- each of the first is among the second and not among the third
abbrev pub all_among : List ℕ → List ℕ → List ℕ → Bool
all_among [] before after = true
all_among (k ∷ ks) before after = (is_among k before && not (is_among k after)) && all_among ks before after

-- each of the first is among the second or the third
abbrev pub all_either : List ℕ → List ℕ → List ℕ → Bool
all_either [] after to_cancel = true
all_either (k ∷ ks) after to_cancel = cond (is_among k after) true (is_among k to_cancel) && all_either ks after to_cancel

pub each_dropped : (before after to_cancel : List ℕ) → all_among to_cancel before after ≡ true → (k : ℕ) → IsIn k to_cancel → IsIn k before × (IsIn k after → ⊥)
each_dropped before after [] h k i = elim i [ ]
each_dropped before after (o ∷ os) h k (inl e) =
    let t = both_true _ _ (both_true _ _ h).0 in
    (subst (λ w. IsIn w before) (sym e) (is_in o before t.0), λ j. cc (among o after (subst (λ w. IsIn w after) e j), t.1))
each_dropped before after (o ∷ os) h k (inr i) = each_dropped before after os (both_true _ _ h).1 k i

pub all_dropped : (before after to_cancel : List ℕ) → all_either before after to_cancel ≡ true → (k : ℕ) → IsIn k before → (IsIn k after → ⊥) → IsIn k to_cancel
all_dropped [] after to_cancel h k i out = elim i [ ]
all_dropped (o ∷ os) after to_cancel h k (inl e) out =
    from_cond (is_among o after) (IsIn k to_cancel)
    (λ z. absurd (out (subst (λ w. IsIn w after) (sym e) (is_in o after z))))
    (λ z. subst (λ w. IsIn w to_cancel) (sym e) (is_in o to_cancel (subst (λ b. cond b true (is_among o to_cancel) ≡ true) z (both_true _ _ h).0)))
all_dropped (o ∷ os) after to_cancel h k (inr i) out = all_dropped os after to_cancel (both_true _ _ h).1 k i out
