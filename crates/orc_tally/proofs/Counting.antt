-- What is told with one way more.
use Rattle.std.proofs.Common.{◌≡◌, ◌++◌, ◌∷◌, ◌∙◌, ◌+◌, ℕ, suc, List, [], cond, count_by, length, map, arith, ap, refl, sym, Option, Some, None}
use Rattle.std.proofs.lemmas.List.Sums.{sum_by_push}
use Rattle.orc_claims.specs.declared.claim.Claim.{Claim}
use Rattle.orc_tally.proofs.Noting.{any_push, first_none}
use Rattle.orc_tally.specs.Sight.{Sight}
use Rattle.orc_tally.specs.Told.{fails_in, first_failure, first_in_ways, first_of, joined, joined_all, tests_in, told, told_of_way}
use Rattle.orc_tally.specs.declared.told.Failure.{Failure}

first_assoc : (x y z : Option Failure) → first_of x (first_of y z) ≡ first_of (first_of x y) z
first_assoc None y z = refl
first_assoc (Some f) y z = refl

first_push : (c : Claim) (way : ℕ) (oss : List (List Sight)) (os : List Sight) → first_in_ways c way (oss ++ os ∷ []) ≡ first_of (first_in_ways c way oss) (first_failure c (way + length oss) 0 os)
first_push c way [] os =
    let here : way ≡ way + 0 = omega arith in
    first_none (first_failure c way 0 os) ∙ ap (λ n. first_failure c n 0 os) here
first_push c way (x ∷ oss) os =
    let here : suc way + length oss ≡ way + length (x ∷ oss) = omega arith in
    ap (first_of (first_failure c way 0 x)) (first_push c (suc way) oss os ∙ ap (λ n. first_of (first_in_ways c (suc way) oss) (first_failure c n 0 os)) here) ∙ first_assoc (first_failure c way 0 x) (first_in_ways c (suc way) oss) (first_failure c (way + length (x ∷ oss)) 0 os)

one_joined : (c : Claim) (oss : List (List Sight)) (os : List Sight) → joined (told c oss) (told_of_way c (length oss) os) ≡ told c (oss ++ os ∷ [])
one_joined c oss os =
    let failing : count_by (fails_in c) oss + cond (fails_in c os) 1 0 ≡ count_by (fails_in c) (oss ++ os ∷ []) = sym (sum_by_push (λ x. cond (fails_in c x) 1 0) oss os) in
    let here : 0 + length oss ≡ length oss = omega arith in
    let first : first_of (first_in_ways c 0 oss) (first_failure c (length oss) 0 os) ≡ first_in_ways c 0 (oss ++ os ∷ []) = sym (first_push c 0 oss os ∙ ap (λ n. first_of (first_in_ways c 0 oss) (first_failure c n 0 os)) here) in
    let tested = sym (any_push (tests_in c) oss os) in
    λ i. record { failing = failing i; first = first i; tested = tested i }

pub each_joined : (cs : List Claim) (oss : List (List Sight)) (os : List Sight) → joined_all (map (λ c. told c oss) cs) (map (λ c. told_of_way c (length oss) os) cs) ≡ map (λ c. told c (oss ++ os ∷ [])) cs
each_joined [] oss os = refl
each_joined (c ∷ cs) oss os = λ i. one_joined c oss os i ∷ each_joined cs oss os i
