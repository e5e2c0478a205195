-- What is left gives the rest of the text.
use Rattle.std.proofs.Common.{◌≡◌, ◌++◌, length}
use Rattle.orc_rules.specs.Text.{closing}
use Rattle.orc_findings.proofs.happening.write_closing.Given as goal

abbrev pub decreases-loop-rest : goal.decreases-loop-rest
decreases-loop-rest l = length l.rest

abbrev pub invariant-loop-rest : goal.invariant-loop-rest
invariant-loop-rest l = l.text.items ++ closing l.rest ≡ l.fn.text.items ++ closing l.fn.values
