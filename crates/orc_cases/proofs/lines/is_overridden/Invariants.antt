-- What is left has one only if all have.
use Rattle.std.proofs.Common.{◌≡◌, length}
use Rattle.std.specs.List.{list_any}
use Rattle.orc_ways.specs.Values.{service_of}
use Rattle.orc_cases.specs.Services.{is_same}
use Rattle.orc_cases.specs.Values.{services_at}
use Rattle.orc_cases.proofs.lines.is_overridden.Given as goal

abbrev pub decreases-loop-rest : goal.decreases-loop-rest
decreases-loop-rest l = length l.rest

abbrev pub invariant-loop-rest : goal.invariant-loop-rest
invariant-loop-rest l = list_any (is_same (service_of l.fn.service)) (services_at l.fn.services l.rest) ≡ list_any (is_same (service_of l.fn.service)) (services_at l.fn.services l.fn.places)
