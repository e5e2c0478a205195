-- What was published so far, and what is left, is what the whole published.
use Rattle.std.proofs.Common.{◌≡◌, ◌++◌, length}
use Rattle.orc_claims.specs.Claims.{published}
use Rattle.orc_claims.proofs.publications.published.Given as goal

abbrev pub decreases-loop-rest : goal.decreases-loop-rest
decreases-loop-rest l = length l.rest

abbrev pub invariant-loop-rest : goal.invariant-loop-rest
invariant-loop-rest l = l.values.items ++ published l.rest ≡ published l.fn.happenings
