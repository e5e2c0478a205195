-- What is left has the other names.
use Rattle.std.proofs.Common.{◌≡◌, ◌++◌, length, map}
use Rattle.orc_ways.specs.Drafting.{service_lines_of}
use Rattle.orc_cases.specs.Services.{names, new_names}
use Rattle.orc_cases.specs.Values.{services_at}
use Rattle.orc_cases.proofs.lines.other_names.Given as goal

abbrev pub decreases-loop-rest : goal.decreases-loop-rest
decreases-loop-rest l = length l.rest

abbrev pub invariant-loop-rest : goal.invariant-loop-rest
invariant-loop-rest l = map (λ n. n.now) l.others.items ++ new_names (map (λ n. n.now) l.seen.items) (map (λ x. x.service) (service_lines_of l.rest)) ≡ new_names (names (services_at l.fn.services l.fn.places)) (map (λ x. x.service) (service_lines_of l.fn.services))
