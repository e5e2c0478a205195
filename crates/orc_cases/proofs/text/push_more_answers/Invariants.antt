-- What is left gives the rest of the text.
use Rattle.std.proofs.Common.{◌≡◌, ◌++◌, length}
use Rattle.orc_cases.specs.Texts.{more_answers}
use Rattle.orc_cases.proofs.text.push_more_answers.Given as goal

abbrev pub decreases-loop-rest : goal.decreases-loop-rest
decreases-loop-rest l = length l.rest

abbrev pub invariant-loop-rest : goal.invariant-loop-rest
invariant-loop-rest l = l.out.items ++ more_answers l.rest ≡ l.fn.out.items ++ more_answers l.fn.answers
