-- What is left is met as the whole is.
use Rattle.std.proofs.Common.{◌≡◌, length}
use Rattle.orc_claims.specs.Meets.{meets_any}
use Rattle.orc_claims.proofs.claim.Event.meets.Given as goal

abbrev pub decreases-loop-rest : goal.decreases-loop-rest
decreases-loop-rest l = length l.rest

abbrev pub invariant-loop-rest : goal.invariant-loop-rest
invariant-loop-rest l = meets_any l.fn.self.alternatives.items l.happening.what l.given ≡ meets_any l.rest l.happening.what l.given
