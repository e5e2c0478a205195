-- What is left gives the rest of the text.
use Rattle.std.proofs.Common.{◌≡◌, ◌++◌, length, true}
use Rattle.orc_findings.specs.Texts.{published_from}
use Rattle.orc_findings.proofs.happening.write_published.Given as goal

abbrev pub decreases-loop-rest : goal.decreases-loop-rest
decreases-loop-rest l = length l.rest

abbrev pub invariant-loop-rest : goal.invariant-loop-rest
invariant-loop-rest l = l.text.items ++ published_from l.is_none l.rest ≡ l.fn.text.items ++ published_from true l.fn.happenings
