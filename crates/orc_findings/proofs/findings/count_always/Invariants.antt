-- What is left gives the rest of the number.
use Rattle.std.proofs.Common.{◌≡◌, ◌+◌, ◌≤◌, length}
use Rattle.std.specs.List.{count_by}
use Rattle.orc_findings.specs.Findings.{is_always}
use Rattle.orc_findings.proofs.findings.count_always.Given as goal

abbrev pub decreases-loop-rest : goal.decreases-loop-rest
decreases-loop-rest l = length l.rest

abbrev pub invariant-loop-rest : goal.invariant-loop-rest
invariant-loop-rest l = (l.number + count_by is_always l.rest ≡ count_by is_always l.fn.lines) × (l.number + length l.rest ≤ length l.fn.lines)
