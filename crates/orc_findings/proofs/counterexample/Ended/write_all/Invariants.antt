-- What is left gives the rest of the text.
use Rattle.std.proofs.Common.{◌≡◌, ◌++◌, length}
use Rattle.orc_findings.specs.Below.{seen_all}
use Rattle.orc_findings.proofs.counterexample.Ended.write_all.Given as goal

abbrev pub decreases-loop-rest : goal.decreases-loop-rest
decreases-loop-rest l = length l.rest

abbrev pub invariant-loop-rest : goal.invariant-loop-rest
invariant-loop-rest l = l.text.items ++ seen_all l.fn.sites l.fn.latest l.rest ≡ l.fn.text.items ++ seen_all l.fn.sites l.fn.latest l.fn.self.happenings.now
