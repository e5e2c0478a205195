-- The run of a call is named by its own graph, the sites and its limit, and whether its journal is kept.
use Rattle.orc_scheduler.proofs.sub_runs.result_of.Given as goal

abbrev pub ghosts-run_apart : goal.ghosts-run_apart
ghosts-run_apart g a = record { listing = a.graph.now; sites = a.answers.now.sites; limit = a.limit; keeps = a.keeps }
