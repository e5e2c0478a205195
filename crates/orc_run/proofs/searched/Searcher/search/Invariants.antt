-- Some cases were searched.
use Rattle.orc_run.specs.Whole.{AreSoFar}
use Rattle.orc_run.proofs.searched.Searcher.search.Given as goal

abbrev pub invariant-loop-case : goal.invariant-loop-case
invariant-loop-case l = AreSoFar l.fn.self l.case 0 l.said.items
