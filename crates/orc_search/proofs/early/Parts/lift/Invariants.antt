use Rattle.orc_search.specs.Nodes.{smalls, Extends}
use Rattle.orc_search.specs.Parts.{IsPart, Lifts}
use Rattle.orc_search.proofs.early.Parts.lift.Given as goal

abbrev pub invariant-loop-frame : goal.invariant-loop-frame
invariant-loop-frame l = Extends (smalls l.fn.terms) (smalls l.terms) × IsPart (smalls l.fn.terms) l.self.root l.self.list.items l.part × Lifts (smalls l.fn.terms) (smalls l.terms) l.fn.part.spot l.part.spot l.fn.step l.step
