-- What is left has the other ways.
use Rattle.std.proofs.Common.{◌≡◌, ◌+◌, length}
use Rattle.orc_tally.specs.Table.{all_tried}
use Rattle.orc_tally.proofs.text.all_tried.Given as goal

abbrev pub decreases-loop-rest : goal.decreases-loop-rest
decreases-loop-rest l = length l.rest

abbrev pub invariant-loop-rest : goal.invariant-loop-rest
invariant-loop-rest l = l.number + all_tried l.rest ≡ all_tried l.fn.cases
