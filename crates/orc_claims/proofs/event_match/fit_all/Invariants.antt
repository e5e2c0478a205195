-- What is left fits as the whole does.
use Rattle.std.proofs.Common.{◌≡◌, length}
use Rattle.orc_claims.specs.Meets.{fit_all}
use Rattle.orc_claims.proofs.event_match.fit_all.Given as goal

abbrev pub decreases-loop-rest : goal.decreases-loop-rest
decreases-loop-rest l = length l.rest

abbrev pub invariant-loop-rest : goal.invariant-loop-rest
invariant-loop-rest l = fit_all l.fn.slots l.fn.values l.fn.given.items ≡ fit_all l.rest l.others l.given.items
