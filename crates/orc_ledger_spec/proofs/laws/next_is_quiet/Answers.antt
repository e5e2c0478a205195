use Rattle.orc_ledger_spec.proofs.Nexts.{next_quiet}
use Rattle.orc_ledger_spec.proofs.laws.next_is_quiet.Goals as goal

pub returns : goal.returns
returns c = λ l sites s L told n G h. next_quiet l sites s L told n G h
