use Rattle.std.proofs.Common.{◌≡◌, take, map}
use Rattle.orc_rules.specs.Programs.{routine_of}
use Rattle.orc_graph.proofs.graph.definitions_of.Given as goal

abbrev pub invariant-loop-definition : goal.invariant-loop-definition
invariant-loop-definition l = l.definitions ≡ map routine_of (take l.definition-index l.definition-items)
