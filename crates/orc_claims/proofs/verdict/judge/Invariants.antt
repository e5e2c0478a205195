-- The claims so far are judged.
use Rattle.std.proofs.Common.{◌≡◌, map, take}
use Rattle.orc_claims.specs.Verdicts.{judged}
use Rattle.orc_claims.proofs.verdict.judge.Given as goal

abbrev pub invariant-loop-claim : goal.invariant-loop-claim
invariant-loop-claim l = l.all.items ≡ map (λ c. judged c l.happenings l.end l.now) (take l.claim-index l.claims)
