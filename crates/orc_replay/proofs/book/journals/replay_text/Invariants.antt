-- The program, the sites and the most entries name the run, whose journal is kept; and the words name their own table.
use Rattle.std.proofs.Common.{true}
use Rattle.orc_rules.specs.declared.limits.TheConstants.{MOST_ENTRIES}
use Rattle.orc_replay.proofs.book.journals.replay_text.Given as goal

abbrev pub ghosts-replay_named-P-Run : goal.ghosts-replay_named-P-Run
ghosts-replay_named-P-Run a = record { listing = a.graph.now; sites = a.answers.now.sites; limit = MOST_ENTRIES; keeps = true }

abbrev pub ghosts-replay_named-P-Naming : goal.ghosts-replay_named-P-Naming
ghosts-replay_named-P-Naming a = record { table = a.words.table.shared.table_id }
