-- The lines so far.
use Rattle.std.proofs.Common.{◌≡◌, ◌++◌, List, take}
use Rattle.orc_schedules.specs.declared.ended.Ended.{Ended}
use Rattle.orc_run.specs.Searched.{AreMore, unseen_lines}
use Rattle.orc_run.proofs.outcomes.write_more.Given as goal

abbrev pub invariant-loop-ended : goal.invariant-loop-ended
invariant-loop-ended l = (more : List Ended) × AreMore l.seen (take l.ended-index l.found) more × (l.text.items ≡ l.fn.text.items ++ unseen_lines l.orders more)
