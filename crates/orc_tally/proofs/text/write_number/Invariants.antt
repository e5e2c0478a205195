-- What is left gives the rest of the number.
use Rattle.std.proofs.Common.{◌≡◌, ◌++◌, length}
use Rattle.orc_tally.specs.Table.{grouped, number_text}
use Rattle.orc_tally.proofs.text.write_number.Given as goal

abbrev pub decreases-loop-rest : goal.decreases-loop-rest
decreases-loop-rest l = length l.rest

abbrev pub invariant-loop-rest : goal.invariant-loop-rest
invariant-loop-rest l = l.text.items ++ grouped l.rest ≡ l.fn.text.items ++ number_text l.fn.number
