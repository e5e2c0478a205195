-- What is left gives the other choices.
use Rattle.std.proofs.Common.{◌≡◌, ◌++◌, length}
use Rattle.orc_cases.specs.Choices.{each_followed}
use Rattle.orc_cases.specs.Values.{choices_from}
use Rattle.orc_cases.proofs.choices.each_followed.Given as goal

abbrev pub decreases-loop-rest : goal.decreases-loop-rest
decreases-loop-rest l = length l.rest

abbrev pub invariant-loop-rest : goal.invariant-loop-rest
invariant-loop-rest l = choices_from l.all.items ++ each_followed (choices_from l.rest) (choices_from l.fn.others) ≡ each_followed (choices_from l.fn.some) (choices_from l.fn.others)
