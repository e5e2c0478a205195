-- What the entries so far publish is told, and the time is that of the last tick among them.
use Rattle.std.proofs.Common.{◌≡◌, ◌++◌, drop}
use Rattle.orc_run.specs.Times.{timed}
use Rattle.orc_run.proofs.times.times_of.Given as goal

abbrev pub invariant-loop-at : goal.invariant-loop-at
invariant-loop-at l = timed 0 l.journal.entries ≡ l.lines.items ++ timed l.now (drop l.at l.journal.entries)
