use Rattle.orc_checker.proofs.Labelling.{Collects}
use Rattle.orc_checker.proofs.label.cells_around.Given as goal

abbrev pub invariant-loop-steps : goal.invariant-loop-steps
invariant-loop-steps l = Collects l.nodes.items l.from l.place l.cells.items
