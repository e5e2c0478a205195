use Rattle.orc_term.proofs.Climbing.{Came}
use Rattle.orc_term.proofs.walk.way_up.Given as goal

abbrev pub invariant-loop-steps : goal.invariant-loop-steps
invariant-loop-steps l = Came l.nodes.items l.from l.place l._steps
