use Rattle.std.specs.Prelude.{true}
use Rattle.orc_replay.proofs.ledger.rows.refused.Given as goal

abbrev pub ghosts-refused_at : goal.ghosts-refused_at
ghosts-refused_at a = record { listing = a.graph.now; sites = a.answers.now.sites; limit = a.limit; keeps = true }
