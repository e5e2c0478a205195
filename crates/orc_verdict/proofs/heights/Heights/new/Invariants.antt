use Rattle.orc_rules.specs.Nodes.{code}
use Rattle.orc_verdict.proofs.Levels.{AreHeightsBelow}
use Rattle.orc_verdict.proofs.heights.Heights.new.Given as goal

abbrev pub invariant-loop-i : goal.invariant-loop-i
invariant-loop-i l = AreHeightsBelow (code l.program) l.i l.levels.items
