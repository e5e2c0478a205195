-- What is said of the claim at a place.
use Rattle.std.proofs.Common.{◌≡◌, ◌≤◌, ◌∷◌, ◌∙◌, ◌+◌, ◌-◌, ℕ, zero, suc, List, [], None, ap, arith, drop, length, map, refl, take}
use Rattle.std.specs.List.{slice_get}
use Rattle.orc_claims.specs.declared.claim.Claim.{Claim}
use Rattle.orc_tally.specs.Sight.{Sight, said}
use Rattle.orc_findings.specs.Findings.{first_verdict, verdict_in}

first_there : (cs : List Claim) (n : ℕ) (s : Sight) → first_verdict (map (λ c. said c s) (take 1 (drop n cs))) ≡ verdict_in (slice_get cs n) s
first_there [] zero s = refl
first_there [] (suc n) s = refl
first_there (c ∷ cs) zero s = refl
first_there (c ∷ cs) (suc n) s = first_there cs n s

-- it is the first of those from there on
pub verdict_there : (cs : List Claim) (n : ℕ) (s : Sight) → first_verdict (map (λ c. said c s) (take (n + 1 - n) (drop n cs))) ≡ verdict_in (slice_get cs n) s
verdict_there cs n s = let one : n + 1 - n ≡ 1 = omega arith in ap (λ (k : ℕ). first_verdict (map (λ c. said c s) (take k (drop n cs)))) one ∙ first_there cs n s

-- and past the last there is none
pub none_there : (cs : List Claim) (n : ℕ) (s : Sight) → length cs ≤ n → None ≡ verdict_in (slice_get cs n) s
none_there [] zero s far = refl
none_there [] (suc n) s far = refl
none_there (c ∷ cs) zero s far = absurd (omega (arith, far))
none_there (c ∷ cs) (suc n) s far = let near : length cs ≤ n = omega (arith, far) in none_there cs n s near
