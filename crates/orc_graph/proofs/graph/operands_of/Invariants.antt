use Rattle.std.proofs.Common.{◌≡◌, take, map}
use Rattle.orc_rules.specs.declared.param.Operand.TheVariants.{Is}
use Rattle.orc_graph.proofs.graph.operands_of.Given as goal

abbrev pub invariant-loop-value : goal.invariant-loop-value
invariant-loop-value l = l.operands ≡ map Is (take l.value-index l.values)
