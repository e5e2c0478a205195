-- What is left has the other services.
use Rattle.std.proofs.Common.{◌≡◌, ◌++◌, drop}
use Rattle.orc_ways.specs.Drafting.{service_lines_of}
use Rattle.orc_cases.specs.Services.{kept}
use Rattle.orc_cases.specs.Values.{services_at}
use Rattle.orc_cases.proofs.lines.add_kept.Given as goal

abbrev pub invariant-loop-place : goal.invariant-loop-place
invariant-loop-place l = services_at l.services l.places.items ++ kept (services_at l.services l.own) (service_lines_of (drop l.place l.services)) ≡ services_at l.services l.fn.places.items ++ kept (services_at l.services l.own) (service_lines_of l.services)
