-- The program, the sites and the row's limit name the run, whose journal is kept; and the words name their own table.
use Rattle.std.proofs.Common.{true}
use Rattle.orc_replay.proofs.book.rows.show.Given as goal

abbrev pub ghosts-show_named-P-Run : goal.ghosts-show_named-P-Run
ghosts-show_named-P-Run a = record { listing = a.graph.now; sites = a.answers.now.sites; limit = a.limit; keeps = true }

abbrev pub ghosts-show_named-P-Naming : goal.ghosts-show_named-P-Naming
ghosts-show_named-P-Naming a = record { table = a.words.table.shared.table_id }
