-- What is left has the value where the whole has.
use Rattle.std.proofs.Common.{◌≡◌, length}
use Rattle.orc_claims.specs.Claims.{is_among}
use Rattle.orc_claims.proofs.publications.is_one_of.Given as goal

abbrev pub decreases-loop-rest : goal.decreases-loop-rest
decreases-loop-rest l = length l.rest

abbrev pub invariant-loop-rest : goal.invariant-loop-rest
invariant-loop-rest l = is_among l.value l.rest ≡ is_among l.value l.fn.wanted
