-- What is left is the same only if all is.
use Rattle.std.proofs.Common.{◌≡◌, length}
use Rattle.orc_cases.specs.Services.{slots_eq}
use Rattle.orc_cases.proofs.lines.same_patterns.Given as goal

abbrev pub decreases-loop-rest : goal.decreases-loop-rest
decreases-loop-rest l = length l.rest

abbrev pub invariant-loop-rest : goal.invariant-loop-rest
invariant-loop-rest l = slots_eq l.rest l.others ≡ slots_eq l.fn.a l.fn.b
