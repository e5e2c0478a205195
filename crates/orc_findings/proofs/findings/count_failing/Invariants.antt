-- What is left gives the rest of the number.
use Rattle.std.proofs.Common.{◌≡◌, ◌+◌, ◌≤◌, length}
use Rattle.orc_findings.specs.Findings.{unsaid}
use Rattle.orc_findings.proofs.findings.count_failing.Given as goal

abbrev pub decreases-loop-rest : goal.decreases-loop-rest
decreases-loop-rest l = length l.rest

abbrev pub invariant-loop-rest : goal.invariant-loop-rest
invariant-loop-rest l = (l.number + unsaid l.rest l.others ≡ unsaid l.fn.lines l.fn.judged) × (l.number + length l.rest ≤ length l.fn.lines)
