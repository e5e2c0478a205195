use Rattle.std.proofs.Common.{◌≡◌, map, take}
use Rattle.orc_rules.specs.Trace.{published}
use Rattle.orc_journal.specs.Rows.{entry_of}
use Rattle.orc_journal.proofs.journal.Journal.published.Given as goal

abbrev pub invariant-loop-row : goal.invariant-loop-row
invariant-loop-row l = l.values.items ≡ published (map (entry_of l.self-inside.tables) (take l.row-index l.row-items))
