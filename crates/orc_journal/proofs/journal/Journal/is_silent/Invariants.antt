use Rattle.std.proofs.Common.{map, take}
use Rattle.orc_subrun.specs.Moved.{AreSilent}
use Rattle.orc_journal.specs.Rows.{entry_of}
use Rattle.orc_journal.proofs.journal.Journal.is_silent.Given as goal

abbrev pub invariant-loop-row : goal.invariant-loop-row
invariant-loop-row l = AreSilent (map (entry_of l.self-inside.tables) (take l.row-index l.row-items))
