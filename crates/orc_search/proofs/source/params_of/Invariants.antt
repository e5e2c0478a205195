use Rattle.std.proofs.Common.{◌≡◌, map, take}
use Rattle.orc_rules.specs.Nodes.{param_of}
use Rattle.orc_search.proofs.source.params_of.Given as goal

abbrev pub invariant-loop-operand : goal.invariant-loop-operand
invariant-loop-operand l = l.params.items ≡ map param_of (take l.operand-index l.operands)
