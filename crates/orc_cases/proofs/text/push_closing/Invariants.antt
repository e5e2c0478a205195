-- What is left gives the rest of the text.
use Rattle.std.proofs.Common.{◌≡◌, ◌++◌, length}
use Rattle.orc_cases.specs.Texts.{closing}
use Rattle.orc_cases.proofs.text.push_closing.Given as goal

abbrev pub decreases-loop-rest : goal.decreases-loop-rest
decreases-loop-rest l = length l.rest

abbrev pub invariant-loop-rest : goal.invariant-loop-rest
invariant-loop-rest l = l.out.items ++ closing l.rest ≡ l.fn.out.items ++ closing l.fn.patterns
