use Rattle.orc_rules.proofs.Runs.{run_is_journal}
use Rattle.orc_rules.proofs.laws.run_is_journal.Goals as goal

pub returns : goal.returns
returns c = run_is_journal
