-- What is left has the other lines.
use Rattle.std.proofs.Common.{◌≡◌, ◌++◌, length, map}
use Rattle.orc_cases.specs.Values.{lines_from, services_at}
use Rattle.orc_cases.specs.Ways.{line_of}
use Rattle.orc_cases.proofs.frame.lines_of.Given as goal

abbrev pub decreases-loop-rest : goal.decreases-loop-rest
decreases-loop-rest l = length l.rest

abbrev pub invariant-loop-rest : goal.invariant-loop-rest
invariant-loop-rest l = lines_from l.lines.items ++ map line_of (services_at l.fn.services l.rest) ≡ map line_of (services_at l.fn.services l.fn.places)
