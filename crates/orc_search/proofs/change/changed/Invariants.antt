use Rattle.orc_search.specs.Nodes.{smalls, Extends}
use Rattle.orc_search.proofs.change.changed.Given as goal

abbrev pub invariant-loop-step : goal.invariant-loop-step
invariant-loop-step l = Extends (smalls l.fn.terms) (smalls l.terms)
