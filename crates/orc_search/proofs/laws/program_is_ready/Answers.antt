use Rattle.orc_search.proofs.Programs.{program_is_ready}
use Rattle.orc_search.proofs.laws.program_is_ready.Goals as goal

pub returns : goal.returns
returns c = program_is_ready
