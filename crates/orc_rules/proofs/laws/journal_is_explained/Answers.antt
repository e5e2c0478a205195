use Rattle.orc_rules.proofs.Settled.{journal_is_explained}
use Rattle.orc_rules.proofs.laws.journal_is_explained.Goals as goal

pub returns : goal.returns
returns c = journal_is_explained
