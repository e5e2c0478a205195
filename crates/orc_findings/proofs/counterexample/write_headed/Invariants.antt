-- What is left gives the rest of the text.
use Rattle.std.proofs.Common.{◌≡◌, ◌++◌, length}
use Rattle.orc_findings.specs.Below.{headed}
use Rattle.orc_findings.proofs.counterexample.write_headed.Given as goal

abbrev pub decreases-loop-rest : goal.decreases-loop-rest
decreases-loop-rest l = length l.rest

abbrev pub invariant-loop-rest : goal.invariant-loop-rest
invariant-loop-rest l = l.text.items ++ headed l.is_first l.fn.head l.rest ≡ l.fn.text.items ++ headed l.fn.begins l.fn.head l.fn.lines
