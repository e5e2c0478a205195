-- What is left has the value that the whole has.
use Rattle.std.proofs.Common.{◌≡◌, length}
use Rattle.orc_claims.specs.Meets.{value_in}
use Rattle.orc_claims.proofs.event_match.value_in.Given as goal

abbrev pub decreases-loop-rest : goal.decreases-loop-rest
decreases-loop-rest l = length l.rest

abbrev pub invariant-loop-rest : goal.invariant-loop-rest
invariant-loop-rest l = value_in l.rest l.variable ≡ value_in l.fn.given l.fn.variable
