use Rattle.std.proofs.Common.{◌≡◌, map, take}
use Rattle.orc_subrun.specs.Moved.{moved}
use Rattle.orc_journal.specs.Rows.{entry_of}
use Rattle.orc_journal.specs.Written.{journal_with}
use Rattle.orc_journal.proofs.journal.Journal.push_each.Given as goal

abbrev pub invariant-loop-row : goal.invariant-loop-row
invariant-loop-row l = l.self ≡ journal_with l.initial.self (map (moved l.numbering) (map (entry_of l.part-inside.tables) (take l.row-index l.row-items)))
