-- What is left gives the other choices.
use Rattle.std.proofs.Common.{◌≡◌, ◌++◌, length}
use Rattle.orc_ways.specs.Values.{histories_of}
use Rattle.orc_cases.specs.Choices.{options}
use Rattle.orc_cases.specs.Values.{choices_from}
use Rattle.orc_cases.proofs.choices.options.Given as goal

abbrev pub decreases-loop-rest : goal.decreases-loop-rest
decreases-loop-rest l = length l.rest

abbrev pub invariant-loop-rest : goal.invariant-loop-rest
invariant-loop-rest l = choices_from l.all.items ++ options l.off (histories_of l.rest) ≡ options 0 (histories_of l.fn.alternatives)
