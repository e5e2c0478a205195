use Rattle.std.proofs.Common.{◌≡◌, length}
use Rattle.orc_syntax.specs.Machine as machine
use Rattle.orc_syntax.specs.View.{operand, nodes, stack}
use Rattle.orc_syntax.proofs.reader.Reader.reduce.Given as goal

abbrev pub invariant-loop-top : goal.invariant-loop-top
invariant-loop-top l = record {
  same : machine.reduce l.level (operand l.right) (nodes l.self) (stack l.self) ≡ machine.reduce l.fn.level (operand l.fn.last) (nodes l.fn.self) (stack l.fn.self);
  definitions : l.self.definitions.items ≡ l.fn.self.definitions.items;
  parameters : l.self.parameters.items ≡ l.fn.self.parameters.items;
}

abbrev pub decreases-loop-top : goal.decreases-loop-top
decreases-loop-top l = length l.self.frames.items
