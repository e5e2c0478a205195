use Rattle.orc_syntax.proofs.Least.{only_limits}
use Rattle.orc_syntax.proofs.source.only_limits.Goals as goal

pub returns : goal.returns
returns c = only_limits
