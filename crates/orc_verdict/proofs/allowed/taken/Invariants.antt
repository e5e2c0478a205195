use Rattle.std.proofs.Common.{◌≡◌}
use Rattle.orc_verdict.specs.Allowed.{AreTaken}
use Rattle.orc_verdict.proofs.allowed.taken.Given as goal

-- what was taken so far meets all conditions, and the tests have changed nothing
abbrev pub invariant-loop-entry : goal.invariant-loop-entry
invariant-loop-entry l = (l.marked ≡ l.fn.marked) × AreTaken l.program l.answers l.fn.marked l.taken.items
