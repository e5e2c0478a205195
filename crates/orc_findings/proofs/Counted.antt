-- What is said of claims counts those that fail.
use Rattle.std.proofs.Common.{◌≡◌, ◌∷◌, ◌∙◌, suc, List, [], cond, map, ap, refl}
use Rattle.std.specs.Prelude.{◌&&◌, not}
use Rattle.orc_claims.specs.declared.claim.Claim.{Claim}
use Rattle.orc_tally.specs.Sight.{Sight, fails, said}
use Rattle.orc_tally.proofs.Noting.{fails_as}
use Rattle.orc_ways.specs.declared.test.ClaimLine.{ClaimLine}
use Rattle.orc_findings.specs.Findings.{failing_of, is_always, unsaid}

pub unsaid_fail : (s : Sight) (ls : List ClaimLine) (cs : List Claim) → unsaid ls (map (λ c. said c s) cs) ≡ failing_of s ls cs
unsaid_fail s [] cs = refl
unsaid_fail s (l ∷ ls) [] = refl
unsaid_fail s (l ∷ ls) (c ∷ cs) =
    ap (λ b. cond (is_always l && not b) (suc (unsaid ls (map (λ c. said c s) cs))) (unsaid ls (map (λ c. said c s) cs))) (fails_as c s)
    ∙ ap (λ n. cond (is_always l && fails c s) (suc n) n) (unsaid_fail s ls cs)
