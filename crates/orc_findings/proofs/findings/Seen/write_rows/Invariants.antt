-- What is left gives the rest of the rows.
use Rattle.std.proofs.Common.{◌≡◌, ◌++◌, length}
use Rattle.orc_findings.specs.Findings.{rows_text, sight_of}
use Rattle.orc_findings.proofs.findings.Seen.write_rows.Given as goal

abbrev pub decreases-loop-rest : goal.decreases-loop-rest
decreases-loop-rest l = length l.rest

abbrev pub invariant-loop-rest : goal.invariant-loop-rest
invariant-loop-rest l = l.text.items ++ rows_text l.fn.sites (sight_of l.fn.self) l.rest l.others ≡ l.fn.text.items ++ rows_text l.fn.sites (sight_of l.fn.self) l.fn.lines l.fn.judged
