use Rattle.orc_search.proofs.Paths.{ending_is_halted, ending_is_quiet}
use Rattle.orc_search.proofs.laws.ending_is_end.Goals as goal

pub returns-clause-halted : goal.returns-clause-halted
returns-clause-halted c = ending_is_halted

pub returns-clause-quiet : goal.returns-clause-quiet
returns-clause-quiet c = ending_is_quiet
