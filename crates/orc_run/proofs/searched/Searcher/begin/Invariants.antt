-- Some claims were asked.
use Rattle.std.proofs.Common.{◌≡◌, length}
use Rattle.orc_run.specs.Whole.{AreSoFar}
use Rattle.orc_run.proofs.searched.Searcher.begin.Given as goal

abbrev pub invariant-loop-claim : goal.invariant-loop-claim
invariant-loop-claim l = AreSoFar l.fn.self 0 0 l.all.items × (l.claim ≡ length l.all.items)
