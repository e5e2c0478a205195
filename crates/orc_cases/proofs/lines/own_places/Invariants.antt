-- What is left has the other services.
use Rattle.std.proofs.Common.{◌≡◌, ◌++◌, drop}
use Rattle.orc_ways.specs.Drafting.{service_lines_of}
use Rattle.orc_cases.specs.Services.{own}
use Rattle.orc_cases.specs.Values.{services_at}
use Rattle.orc_cases.proofs.lines.own_places.Given as goal

abbrev pub invariant-loop-place : goal.invariant-loop-place
invariant-loop-place l = services_at l.services l.places.items ++ own l.case (service_lines_of (drop l.place l.services)) ≡ own l.case (service_lines_of l.services)
