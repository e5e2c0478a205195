use Rattle.orc_ledger_spec.proofs.Nexts.{next_ticks}
use Rattle.orc_ledger_spec.proofs.laws.next_ticks.Goals as goal

pub returns : goal.returns
returns c = λ l sites s L told n G t h. next_ticks l sites s L told n G t h
