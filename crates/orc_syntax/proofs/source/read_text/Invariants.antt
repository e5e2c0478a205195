use Rattle.std.proofs.Common.{◌-◌, ◌≤◌, length}
use Rattle.orc_syntax.specs.Machine as machine
use Rattle.orc_syntax.specs.View.{mode, context, nodes, stack, count_of}
use Rattle.orc_syntax.proofs.Progress.{Progress}
use Rattle.orc_syntax.proofs.source.read_text.Given as goal

abbrev pub invariant-loop-at : goal.invariant-loop-at
invariant-loop-at l = record {
  high : l.at ≤ length l.src;
  so_far : Progress l.src l.at (machine.state (mode l.mode) (context l.reader) (nodes l.reader) (stack l.reader)) (count_of l.depth);
}

abbrev pub decreases-loop-at : goal.decreases-loop-at
decreases-loop-at l = length l.src - l.at
