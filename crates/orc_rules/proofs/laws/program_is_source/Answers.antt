use Rattle.orc_rules.proofs.Listed.{program_is_source}
use Rattle.orc_rules.proofs.laws.program_is_source.Goals as goal

pub returns : goal.returns
returns c = program_is_source
