use Rattle.std.proofs.Common.{map, take}
use Rattle.orc_subrun.specs.Moved.{AreLocal}
use Rattle.orc_journal.specs.Rows.{entry_of}
use Rattle.orc_journal.proofs.journal.Journal.are_local.Given as goal

abbrev pub invariant-loop-row : goal.invariant-loop-row
invariant-loop-row l = AreLocal l.answers.sites (map (entry_of l.self-inside.tables) (take l.row-index l.row-items))
