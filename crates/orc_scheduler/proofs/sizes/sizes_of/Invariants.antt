-- What was counted is that of the entries so far, and no more than they are.
use Rattle.std.proofs.Common.{◌≡◌, ◌≤◌, take}
use Rattle.orc_journal.specs.Sizes.{brings, feeds, opens, total}
use Rattle.orc_scheduler.proofs.sizes.sizes_of.Given as goal

abbrev pub invariant-loop-at : goal.invariant-loop-at
invariant-loop-at l = ((l.brought ≡ total brings (take l.at l.journal.entries)) × (l.brought ≤ l.at)) × ((l.opened ≡ total opens (take l.at l.journal.entries)) × (l.opened ≤ l.at)) × ((l.fed ≡ total feeds (take l.at l.journal.entries)) × (l.fed ≤ l.at))
