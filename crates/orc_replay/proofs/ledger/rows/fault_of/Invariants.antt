use Rattle.std.proofs.Common.{true}
use Rattle.orc_rules.specs.declared.limits.TheConstants.{MOST_ENTRIES}
use Rattle.orc_replay.proofs.ledger.rows.fault_of.Given as goal

abbrev pub ghosts-wrong_step : goal.ghosts-wrong_step
ghosts-wrong_step a = record { listing = a.graph.now; sites = a.answers.now.sites; limit = MOST_ENTRIES; keeps = true }
