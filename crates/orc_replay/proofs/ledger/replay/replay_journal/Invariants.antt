-- The program and the sites name the ledger's.
use Rattle.std.proofs.Common.{true}
use Rattle.orc_rules.specs.declared.limits.TheConstants.{MOST_ENTRIES}
use Rattle.orc_replay.proofs.ledger.replay.replay_journal.Given as goal

abbrev pub ghosts-replay_named : goal.ghosts-replay_named
ghosts-replay_named a = record { listing = a.graph.now; sites = a.answers.now.sites; limit = MOST_ENTRIES; keeps = true }
