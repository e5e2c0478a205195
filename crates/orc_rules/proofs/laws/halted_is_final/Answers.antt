use Rattle.orc_rules.proofs.Final.{halted_is_final}
use Rattle.orc_rules.proofs.laws.halted_is_final.Goals as goal

pub returns : goal.returns
returns c = halted_is_final
