use Rattle.orc_verdict.proofs.Nesting.{IsLooked}
use Rattle.orc_verdict.proofs.depth.depth_of.Given as goal

abbrev pub invariant-loop-step : goal.invariant-loop-step
invariant-loop-step l = IsLooked l.heights l.nodes l.left.items l.deepest
