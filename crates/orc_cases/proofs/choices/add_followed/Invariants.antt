-- What is left gives the other choices.
use Rattle.std.proofs.Common.{◌≡◌, ◌++◌, length, map}
use Rattle.orc_cases.specs.Choices.{followed_by}
use Rattle.orc_cases.specs.Values.{choice_of, choices_from}
use Rattle.orc_cases.proofs.choices.add_followed.Given as goal

abbrev pub decreases-loop-rest : goal.decreases-loop-rest
decreases-loop-rest l = length l.rest

abbrev pub invariant-loop-rest : goal.invariant-loop-rest
invariant-loop-rest l = choices_from l.all.items ++ map (followed_by (choice_of l.fn.first)) (choices_from l.rest) ≡ choices_from l.fn.all.items ++ map (followed_by (choice_of l.fn.first)) (choices_from l.fn.others)
