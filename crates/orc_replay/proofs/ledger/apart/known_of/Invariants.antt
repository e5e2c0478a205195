-- The program, the sites and the limit of the run name the ledger's, whose journal isn't kept.
use Rattle.std.proofs.Common.{false}
use Rattle.orc_replay.proofs.ledger.apart.known_of.Given as goal

abbrev pub ghosts-known_named : goal.ghosts-known_named
ghosts-known_named a = record { listing = a.graph.now; sites = a.answers.now.sites; limit = a.limit; keeps = false }
