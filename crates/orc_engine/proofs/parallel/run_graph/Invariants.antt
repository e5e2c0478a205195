-- The program, the sites and the limit of the run name the ledger's, and whether its journal is kept.
use Rattle.orc_engine.proofs.parallel.run_graph.Given as goal

abbrev pub ghosts-run_named : goal.ghosts-run_named
ghosts-run_named g a = record { listing = a.program.now; sites = a.answers.now.sites; limit = a.limit; keeps = a.keeps }
