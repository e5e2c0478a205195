-- What is left has the other ways.
use Rattle.std.proofs.Common.{◌≡◌, ◌+◌, length}
use Rattle.orc_tally.specs.Table.{all_ways}
use Rattle.orc_tally.proofs.text.all_ways.Given as goal

abbrev pub decreases-loop-rest : goal.decreases-loop-rest
decreases-loop-rest l = length l.rest

abbrev pub invariant-loop-rest : goal.invariant-loop-rest
invariant-loop-rest l = l.number + all_ways l.rest ≡ all_ways l.fn.cases
