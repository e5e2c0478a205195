-- What is left gives the same size.
use Rattle.std.proofs.Common.{◌≡◌, length}
use Rattle.orc_cases.specs.Sizes.{ways_from_size}
use Rattle.orc_cases.specs.Values.{services_at}
use Rattle.orc_cases.proofs.sizes.ways_size.Given as goal

abbrev pub decreases-loop-rest : goal.decreases-loop-rest
decreases-loop-rest l = length l.rest

abbrev pub invariant-loop-rest : goal.invariant-loop-rest
invariant-loop-rest l = ways_from_size l.size (services_at l.fn.services l.rest) ≡ ways_from_size 1 (services_at l.fn.services l.fn.places)
