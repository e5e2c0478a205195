use Rattle.orc_subrun.proofs.Listed.{program_is_still}
use Rattle.orc_subrun.proofs.laws.program_is_still.Goals as goal

pub returns : goal.returns
returns c = program_is_still
