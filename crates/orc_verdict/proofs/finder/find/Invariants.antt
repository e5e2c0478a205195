use Rattle.orc_verdict.proofs.Parts.{NoneBelow}
use Rattle.orc_verdict.proofs.finder.find.Given as goal

abbrev pub invariant-loop-at : goal.invariant-loop-at
invariant-loop-at l = NoneBelow l.nodes l.name l.at
