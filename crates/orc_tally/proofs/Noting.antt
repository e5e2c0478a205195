-- A way with one trial more.
use Rattle.std.proofs.Common.{◌≡◌, ◌++◌, ◌∷◌, ◌∙◌, ◌+◌, ℕ, suc, List, [], Bool, true, false, cond, Option, Some, None, length, map, arith, ap, refl, sym}
use Rattle.std.specs.Prelude.{◌||◌, not}
use Rattle.std.specs.List.{list_any}
use Rattle.std.proofs.Math.Bool.{or-false, or_assoc}
use Rattle.std.proofs.lemmas.List.{take_all}
use Rattle.orc_claims.specs.Claims.{holds}
use Rattle.orc_claims.specs.Verdicts.{judged, says_so}
use Rattle.orc_claims.proofs.Saying.{says_what_holds}
use Rattle.orc_claims.specs.declared.claim.Claim.{Claim}
use Rattle.orc_claims.specs.declared.verdict.Judged.{Judged}
use Rattle.orc_tally.specs.Sight.{Sight, fails, said, tests}
use Rattle.orc_tally.specs.Told.{fails_in, first_failure, first_of, noted, noted_all, tests_in, told_of_way}
use Rattle.orc_tally.specs.declared.told.Failure.{Failure}
use Rattle.orc_tally.specs.declared.told.Told.{Told}

pub any_push : {X : Type 0} (p : X → Bool) (xs : List X) (x : X) → list_any p (xs ++ x ∷ []) ≡ (list_any p xs || p x)
any_push p [] x = or-false (p x)
any_push p (y ∷ xs) x = ap (λ b. p y || b) (any_push p xs x) ∙ sym (or_assoc (p y) (list_any p xs) (p x))

pub first_none : (x : Option Failure) → first_of x None ≡ x
first_none None = refl
first_none (Some f) = refl

or_true : (b : Bool) → (b || true) ≡ true
or_true true = refl
or_true false = refl

-- a claim fails where it isn't said to hold
pub fails_as : (c : Claim) (o : Sight) → says_so (Judged.verdict (said c o)) ≡ holds c o.happened o.state o.now
fails_as c o =
    let each : map (λ (j : Judged). says_so j.verdict) (said c o ∷ []) ≡ map (λ c. holds c o.happened o.state o.now) (c ∷ []) = says_what_holds (c ∷ []) o.happened o.state o.now (said c o ∷ []) 1 (omega arith) (sym (ap (map (λ c. judged c o.happened o.state o.now)) (take_all 1 (c ∷ []) (omega arith)))) in
    cc each

first_push : (c : Claim) (way order : ℕ) (os : List Sight) (o : Sight) → first_failure c way order (os ++ o ∷ []) ≡ first_of (first_failure c way order os) (first_failure c way (order + length os) (o ∷ []))
first_push c way order [] o = ap (λ n. first_failure c way n (o ∷ [])) (omega arith)
first_push c way order (x ∷ os) o = go (fails c x) (first_push c way (suc order) os o)
  where
    after : suc order + length os ≡ order + length (x ∷ os)
    after = omega arith

    go : (b : Bool) → first_failure c way (suc order) (os ++ o ∷ []) ≡ first_of (first_failure c way (suc order) os) (first_failure c way (suc order + length os) (o ∷ [])) → cond b (Some (record { way = way; order = order; verdict = (said c x).verdict })) (first_failure c way (suc order) (os ++ o ∷ [])) ≡ first_of (cond b (Some (record { way = way; order = order; verdict = (said c x).verdict })) (first_failure c way (suc order) os)) (first_failure c way (order + length (x ∷ os)) (o ∷ []))
    go true e = refl
    go false e = e ∙ ap (λ n. first_of (first_failure c way (suc order) os) (first_failure c way n (o ∷ []))) after

module _ (c : Claim) (way : ℕ) (os : List Sight) (o : Sight) where
  unfoldable last : Bool → Option Failure
  last b = cond b (Some (record { way = way; order = length os; verdict = (said c o).verdict })) None

  first_last : first_failure c way 0 (os ++ o ∷ []) ≡ first_of (first_failure c way 0 os) (last (fails c o))
  unfolding last
  first_last = first_push c way 0 os o ∙ ap (λ n. first_of (first_failure c way 0 os) (first_failure c way n (o ∷ []))) (omega arith)

  one_noted_as : (b : Bool) → says_so (Judged.verdict (said c o)) ≡ b → fails c o ≡ not b → noted way (length os) (told_of_way c way os) (said c o) ≡ told_of_way c way (os ++ o ∷ [])
  unfolding last
  one_noted_as true e f =
      let failing : cond (fails_in c os) 1 0 ≡ cond (fails_in c (os ++ o ∷ [])) 1 0 = ap (λ b. cond b 1 0) (sym (any_push (fails c) os o ∙ ap (λ b. fails_in c os || b) f ∙ or-false (fails_in c os))) in
      let first : first_failure c way 0 os ≡ first_failure c way 0 (os ++ o ∷ []) = sym (first_last ∙ ap (λ b. first_of (first_failure c way 0 os) (last b)) f ∙ first_none (first_failure c way 0 os)) in
      let tested : (tests_in c os || tests c o) ≡ tests_in c (os ++ o ∷ []) = sym (any_push (tests c) os o) in
      let said_so : noted way (length os) (told_of_way c way os) (said c o) ≡ record { failing = cond (fails_in c os) 1 0; first = first_failure c way 0 os; tested = tests_in c os || tests c o } = ap (λ b. cond {A = Told} b (record { failing = cond (fails_in c os) 1 0; first = first_failure c way 0 os; tested = tests_in c os || tests c o }) (record { failing = 1; first = first_of (first_failure c way 0 os) (last true); tested = tests_in c os || tests c o })) e in
      said_so ∙ (λ i. record { failing = failing i; first = first i; tested = tested i })
  one_noted_as false e f =
      let failing : 1 ≡ cond (fails_in c (os ++ o ∷ [])) 1 0 = ap (λ b. cond b 1 0) (sym (any_push (fails c) os o ∙ ap (λ b. fails_in c os || b) f ∙ or_true (fails_in c os))) in
      let first : first_of (first_failure c way 0 os) (last true) ≡ first_failure c way 0 (os ++ o ∷ []) = sym (first_last ∙ ap (λ b. first_of (first_failure c way 0 os) (last b)) f) in
      let tested : (tests_in c os || tests c o) ≡ tests_in c (os ++ o ∷ []) = sym (any_push (tests c) os o) in
      let said_so : noted way (length os) (told_of_way c way os) (said c o) ≡ record { failing = 1; first = first_of (first_failure c way 0 os) (last true); tested = tests_in c os || tests c o } = ap (λ b. cond {A = Told} b (record { failing = cond (fails_in c os) 1 0; first = first_failure c way 0 os; tested = tests_in c os || tests c o }) (record { failing = 1; first = first_of (first_failure c way 0 os) (last true); tested = tests_in c os || tests c o })) e in
      said_so ∙ (λ i. record { failing = failing i; first = first i; tested = tested i })

  one_noted : noted way (length os) (told_of_way c way os) (said c o) ≡ told_of_way c way (os ++ o ∷ [])
  one_noted = one_noted_as (says_so (Judged.verdict (said c o))) refl (ap not (sym (fails_as c o)))

-- the trial in the next order is noted of each claim
pub each_noted : (cs : List Claim) (way : ℕ) (os : List Sight) (o : Sight) → noted_all way (length os) (map (λ c. told_of_way c way os) cs) (map (λ c. said c o) cs) ≡ map (λ c. told_of_way c way (os ++ o ∷ [])) cs
each_noted [] way os o = refl
each_noted (c ∷ cs) way os o = λ i. one_noted c way os o i ∷ each_noted cs way os o i
