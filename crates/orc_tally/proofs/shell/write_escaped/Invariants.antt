-- What is left gives the rest of the text.
use Rattle.std.proofs.Common.{◌≡◌, ◌++◌, length}
use Rattle.orc_tally.specs.Shell.{escaped}
use Rattle.orc_tally.proofs.shell.write_escaped.Given as goal

abbrev pub decreases-loop-rest : goal.decreases-loop-rest
decreases-loop-rest l = length l.rest

abbrev pub invariant-loop-rest : goal.invariant-loop-rest
invariant-loop-rest l = l.text.items ++ escaped l.rest ≡ l.fn.text.items ++ escaped l.fn.name
