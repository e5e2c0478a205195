-- Something is said of some claims.
use Rattle.std.proofs.Common.{◌≡◌, length}
use Rattle.orc_run.specs.Whole.{AreAfter, Explores}
use Rattle.orc_run.proofs.searched.Searcher.say_of_claims.Given as goal

abbrev pub invariant-loop-claim : goal.invariant-loop-claim
invariant-loop-claim l = AreAfter l.fn.self l.place l.way.script.now l.before.items l.after.items × (l.claim ≡ length l.after.items) × Explores l.way l.explorer
