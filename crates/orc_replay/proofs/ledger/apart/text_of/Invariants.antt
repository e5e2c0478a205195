-- The program, the sites and the limit of the run name the ledger's, whose journal is kept.
use Rattle.std.proofs.Common.{true}
use Rattle.orc_replay.proofs.ledger.apart.text_of.Given as goal

abbrev pub ghosts-text_named : goal.ghosts-text_named
ghosts-text_named a = record { listing = a.graph.now; sites = a.answers.now.sites; limit = a.limit; keeps = true }
