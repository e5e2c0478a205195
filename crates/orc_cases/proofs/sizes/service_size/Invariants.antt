-- The calls that are left give the same size.
use Rattle.std.proofs.Common.{◌≡◌}
use Rattle.orc_ways.specs.Values.{service_of}
use Rattle.orc_cases.specs.Sizes.{calls_from, service_capped}
use Rattle.orc_cases.proofs.sizes.service_size.Given as goal

abbrev pub decreases-loop-left : goal.decreases-loop-left
decreases-loop-left l = l.left

abbrev pub invariant-loop-left : goal.invariant-loop-left
invariant-loop-left l = calls_from l.size l.options l.left ≡ service_capped (service_of l.fn.service)
