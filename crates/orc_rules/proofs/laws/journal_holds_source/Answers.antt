use Rattle.orc_rules.proofs.Sources.{journal_holds_source}
use Rattle.orc_rules.proofs.laws.journal_holds_source.Goals as goal

pub returns : goal.returns
returns c = journal_holds_source
