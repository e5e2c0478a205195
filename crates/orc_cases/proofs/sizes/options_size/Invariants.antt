-- What is left gives the same size.
use Rattle.std.proofs.Common.{◌≡◌, length}
use Rattle.orc_ways.specs.Values.{histories_of}
use Rattle.orc_cases.specs.Sizes.{options_from}
use Rattle.orc_cases.proofs.sizes.options_size.Given as goal

abbrev pub decreases-loop-rest : goal.decreases-loop-rest
decreases-loop-rest l = length l.rest

abbrev pub invariant-loop-rest : goal.invariant-loop-rest
invariant-loop-rest l = options_from l.size (histories_of l.rest) ≡ options_from 0 (histories_of l.fn.alternatives)
