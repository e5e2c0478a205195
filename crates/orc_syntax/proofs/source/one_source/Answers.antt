use Rattle.orc_syntax.proofs.Least.{one_source}
use Rattle.orc_syntax.proofs.source.one_source.Goals as goal

pub returns : goal.returns
returns c = λ src s t h k. one_source src s t h.2 k.2
