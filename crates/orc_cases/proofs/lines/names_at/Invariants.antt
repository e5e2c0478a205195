-- What is left has the other names.
use Rattle.std.proofs.Common.{◌≡◌, ◌++◌, length, map}
use Rattle.orc_cases.specs.Services.{names}
use Rattle.orc_cases.specs.Values.{services_at}
use Rattle.orc_cases.proofs.lines.names_at.Given as goal

abbrev pub decreases-loop-rest : goal.decreases-loop-rest
decreases-loop-rest l = length l.rest

abbrev pub invariant-loop-rest : goal.invariant-loop-rest
invariant-loop-rest l = map (λ n. n.now) l.found.items ++ names (services_at l.fn.services l.rest) ≡ names (services_at l.fn.services l.fn.places)
