-- The program, the sites and the limit of the run name the ledger's, and whether its journal is kept.
use Rattle.orc_engine.proofs.alone.run_alone.Given as goal

abbrev pub ghosts-run_graph : goal.ghosts-run_graph
ghosts-run_graph a = record { listing = a.program.now; sites = a.answers.now.sites; limit = a.limit; keeps = a.keeps }
