use Rattle.orc_rules.proofs.Numbered.{journal_is_numbered}
use Rattle.orc_rules.proofs.laws.journal_is_numbered.Goals as goal

pub returns : goal.returns
returns c = journal_is_numbered
