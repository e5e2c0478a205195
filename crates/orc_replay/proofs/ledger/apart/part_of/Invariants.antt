-- The run of a call is named by its own graph, the sites and its limit, and keeps its journal where the other one does.
use Rattle.orc_replay.proofs.ledger.apart.part_of.Given as goal

abbrev pub ghosts-run_apart : goal.ghosts-run_apart
ghosts-run_apart g a = record { listing = a.graph.now; sites = a.answers.now.sites; limit = a.limit; keeps = a.keeps }
