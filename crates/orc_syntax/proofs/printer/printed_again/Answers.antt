use Rattle.orc_syntax.proofs.Again.{printed_only}
use Rattle.orc_syntax.proofs.printer.printed_again.Goals as goal

pub returns : goal.returns
returns c = printed_only
