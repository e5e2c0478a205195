-- How many groups have no members, as members come and go.
use Rattle.std.proofs.Common.{◌≡◌, ◌≤◌, ◌<◌, ◌+◌, ◌-◌, ℕ, zero, suc, List, [], ◌∷◌, ◌++◌, refl, sym, ap, ◌∙◌, arith, Bool, true, false, cond, nat_eq, eq-eqb}
use Rattle.std.proofs.lemmas.Bool.{eqb-true}
use Rattle.std.proofs.Math.Decide.{ℕ_discrete}
use Rattle.orc_rules.specs.declared.limits.TheConstants.{MOST_GROUPS}
use Rattle.orc_indexes.specs.Same.{weight, is_this}
use Rattle.orc_tables.specs.OpenGroups.{is_named, size_of, is_none, empty_in, AreNumbered}
use Rattle.orc_tables.specs.declared.records.Group.{Group}
use Rattle.orc_indexes.proofs.Weight.{weight-append, weight-same, weight-least, weight-length, this_is, this_not, one-most}

none-is : (k : ℕ) → k ≡ 0 → is_none k ≡ 1
none-is k e = ap is_none e

none-not : (k : ℕ) → 1 ≤ k → is_none k ≡ 0
none-not zero h = absurd (omega (arith, h))
none-not (suc k) h = refl

pub none-most : (k : ℕ) → is_none k ≤ 1
none-most zero = omega arith
none-most (suc k) = omega arith

weight-two : {X : Type 0} (v w u : X → ℕ) (xs : List X) → ((x : X) → v x + w x ≡ u x) → weight v xs + weight w xs ≡ weight u xs
weight-two v w u [] h = refl
weight-two v w u (x ∷ xs) h = omega (arith, h x, weight-two v w u xs h)

module _ (sizes sizes' : List ℕ) (n : ℕ) (gs : List Group) where
  -- a first member comes
  module _ (joined : (i : ℕ) → size_of sizes' i ≡ size_of sizes i + is_this i n) where
    filled : size_of sizes n ≡ 0 → (g : Group) → is_none (size_of sizes' g.number) + is_named n g ≡ is_none (size_of sizes g.number)
    filled nobody g = go (ℕ_discrete n g.number)
      where
        go : Dec (n ≡ g.number) → is_none (size_of sizes' g.number) + is_this n g.number ≡ is_none (size_of sizes g.number)
        go (yes e) =
            let before : size_of sizes g.number ≡ 0 = ap (size_of sizes) (sym e) ∙ nobody in
            omega (arith, none-is (size_of sizes g.number) before, none-not (size_of sizes' g.number) (omega (arith, joined g.number, this_is g.number n (sym e))), this_is n g.number e)
        go (no off) =
            let same : size_of sizes' g.number ≡ size_of sizes g.number = omega (arith, joined g.number, this_not g.number n (λ e. off (sym e))) in
            omega (arith, ap is_none same, this_not n g.number off)

    stays-filled : 1 ≤ size_of sizes n → (g : Group) → is_none (size_of sizes' g.number) ≡ is_none (size_of sizes g.number)
    stays-filled some g = go (ℕ_discrete n g.number)
      where
        go : Dec (n ≡ g.number) → is_none (size_of sizes' g.number) ≡ is_none (size_of sizes g.number)
        go (yes e) =
            let before : 1 ≤ size_of sizes g.number = omega (arith, some, ap (size_of sizes) e) in
            none-not (size_of sizes' g.number) (omega (arith, joined g.number, before)) ∙ sym (none-not (size_of sizes g.number) before)
        go (no off) = ap is_none (let same : size_of sizes' g.number ≡ size_of sizes g.number = omega (arith, joined g.number, this_not g.number n (λ e. off (sym e))) in same)

    pub empty-joined : (size : ℕ) → size ≡ size_of sizes n → empty_in sizes' gs + cond (nat_eq size 0) (weight (is_named n) gs) 0 ≡ empty_in sizes gs
    empty-joined size is = go (nat_eq size 0) refl
      where
        go : (b : Bool) → nat_eq size 0 ≡ b → empty_in sizes' gs + cond b (weight (is_named n) gs) 0 ≡ empty_in sizes gs
        go true e = weight-two (λ (g : Group). is_none (size_of sizes' g.number)) (is_named n) (λ (g : Group). is_none (size_of sizes g.number)) gs (filled (sym is ∙ eqb-true size 0 e))
        go false e =
            let off : size ≡ 0 → ⊥ = λ z. cc (sym e ∙ eq-eqb size 0 z) in
            omega (arith, weight-same (λ (g : Group). is_none (size_of sizes' g.number)) (λ (g : Group). is_none (size_of sizes g.number)) gs (stays-filled (omega (arith, is, off))))

  -- a last member goes
  module _ (left : (i : ℕ) → size_of sizes' i ≡ size_of sizes i - is_this i n) where
    emptied : size_of sizes n ≡ 1 → (g : Group) → is_none (size_of sizes g.number) + is_named n g ≡ is_none (size_of sizes' g.number)
    emptied one g = go (ℕ_discrete n g.number)
      where
        go : Dec (n ≡ g.number) → is_none (size_of sizes g.number) + is_this n g.number ≡ is_none (size_of sizes' g.number)
        go (yes e) =
            let before : size_of sizes g.number ≡ 1 = ap (size_of sizes) (sym e) ∙ one in
            omega (arith, none-not (size_of sizes g.number) (omega (arith, before)), none-is (size_of sizes' g.number) (omega (arith, left g.number, before, this_is g.number n (sym e))), this_is n g.number e)
        go (no off) =
            let same : size_of sizes' g.number ≡ size_of sizes g.number = omega (arith, left g.number, this_not g.number n (λ e. off (sym e))) in
            omega (arith, ap is_none same, this_not n g.number off)

    stays-empty : (size_of sizes n ≡ 1 → ⊥) → (g : Group) → is_none (size_of sizes' g.number) ≡ is_none (size_of sizes g.number)
    stays-empty other g = go (ℕ_discrete n g.number)
      where
        go : Dec (n ≡ g.number) → is_none (size_of sizes' g.number) ≡ is_none (size_of sizes g.number)
        go (yes e) = by (size_of sizes g.number) refl
          where
            by : (k : ℕ) → size_of sizes g.number ≡ k → is_none (size_of sizes' g.number) ≡ is_none k
            by zero z = none-is (size_of sizes' g.number) (omega (arith, left g.number, z))
            by (suc zero) z = absurd (other (ap (size_of sizes) e ∙ z))
            by (suc (suc k)) z = none-not (size_of sizes' g.number) (omega (arith, left g.number, z, one-most g.number n))
        go (no off) = ap is_none (let same : size_of sizes' g.number ≡ size_of sizes g.number = omega (arith, left g.number, this_not g.number n (λ e. off (sym e))) in same)

    pub empty-left : (size : ℕ) → size ≡ size_of sizes n → empty_in sizes' gs ≡ empty_in sizes gs + cond (nat_eq size 1) (weight (is_named n) gs) 0
    empty-left size is = go (nat_eq size 1) refl
      where
        go : (b : Bool) → nat_eq size 1 ≡ b → empty_in sizes' gs ≡ empty_in sizes gs + cond b (weight (is_named n) gs) 0
        go true e = sym (weight-two (λ (g : Group). is_none (size_of sizes g.number)) (is_named n) (λ (g : Group). is_none (size_of sizes' g.number)) gs (emptied (sym is ∙ eqb-true size 1 e)))
        go false e =
            let off : size_of sizes n ≡ 1 → ⊥ = λ z. cc (sym e ∙ eq-eqb size 1 (is ∙ z)) in
            omega (arith, weight-same (λ (g : Group). is_none (size_of sizes' g.number)) (λ (g : Group). is_none (size_of sizes g.number)) gs (stays-empty off))

-- no more of them than there are groups
pub empty-few : (sizes : List ℕ) (gs : List Group) (places free : List ℕ) → AreNumbered gs places free → empty_in sizes gs < MOST_GROUPS
empty-few sizes gs places free N =
    omega (arith, weight-least (λ (g : Group). is_none (size_of sizes g.number)) (λ g. 1) gs (λ g. none-most (size_of sizes g.number)), weight-length gs, N.all, N.few)

pub empty-more : (sizes : List ℕ) (gs : List Group) (g : Group) → empty_in sizes (gs ++ g ∷ []) ≡ empty_in sizes gs + is_none (size_of sizes g.number)
empty-more sizes gs g = weight-append (λ (h : Group). is_none (size_of sizes h.number)) gs (g ∷ []) ∙ (let e : empty_in sizes gs + (is_none (size_of sizes g.number) + 0) ≡ empty_in sizes gs + is_none (size_of sizes g.number) = omega arith in e)

pub empty-same : (sizes sizes' : List ℕ) (gs : List Group) → ((i : ℕ) → size_of sizes' i ≡ size_of sizes i) → empty_in sizes' gs ≡ empty_in sizes gs
empty-same sizes sizes' gs same = weight-same (λ (g : Group). is_none (size_of sizes' g.number)) (λ (g : Group). is_none (size_of sizes g.number)) gs (λ g. ap is_none (same g.number))

-- a number more has no members
pub size-grown : (sizes : List ℕ) (i : ℕ) → size_of (sizes ++ 0 ∷ []) i ≡ size_of sizes i
size-grown [] zero = refl
size-grown [] (suc i) = refl
size-grown (x ∷ sizes) zero = refl
size-grown (x ∷ sizes) (suc i) = size-grown sizes i
