-- The program, the sites and the limit of the run name the ledger's, whose journal is kept; and the words name their own table.
use Rattle.std.proofs.Common.{true}
use Rattle.orc_workers.proofs.pool.Pool.run_graph.Given as goal

abbrev pub ghosts-run_named-P-Run : goal.ghosts-run_named-P-Run
ghosts-run_named-P-Run g a = record { listing = a.program.now; sites = a.answers.now.sites; limit = a.limit; keeps = true }

abbrev pub ghosts-run_named-P-Naming : goal.ghosts-run_named-P-Naming
ghosts-run_named-P-Naming g a = record { table = a.words.table.shared.table_id }
