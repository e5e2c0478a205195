-- What is left comes true where the whole does.
use Rattle.std.proofs.Common.{◌≡◌, length}
use Rattle.orc_claims.specs.Claims.{come_true}
use Rattle.orc_claims.proofs.verdict.come_true.Given as goal

abbrev pub decreases-loop-rest : goal.decreases-loop-rest
decreases-loop-rest l = length l.rest

abbrev pub invariant-loop-rest : goal.invariant-loop-rest
invariant-loop-rest l = come_true l.rest l.happenings ≡ come_true l.fn.conditions l.fn.happenings
