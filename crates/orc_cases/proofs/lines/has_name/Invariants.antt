-- What is left has it only if all have.
use Rattle.std.proofs.Common.{◌≡◌, length, map}
use Rattle.orc_cases.specs.Services.{has_name}
use Rattle.orc_cases.proofs.lines.has_name.Given as goal

abbrev pub decreases-loop-rest : goal.decreases-loop-rest
decreases-loop-rest l = length l.rest

abbrev pub invariant-loop-rest : goal.invariant-loop-rest
invariant-loop-rest l = has_name (map (λ n. n.now) l.rest) l.fn.name ≡ has_name (map (λ n. n.now) l.fn.names) l.fn.name
