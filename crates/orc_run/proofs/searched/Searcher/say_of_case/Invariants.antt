-- Some ways were searched.
use Rattle.orc_run.specs.Whole.{AreSoFar}
use Rattle.orc_run.proofs.searched.Searcher.say_of_case.Given as goal

abbrev pub invariant-loop-way : goal.invariant-loop-way
invariant-loop-way l = AreSoFar l.fn.self l.case l.way l.said.items
