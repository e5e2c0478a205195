use Rattle.orc_ledger_spec.proofs.Withheld.{tick-next}
use Rattle.orc_ledger_spec.proofs.laws.tick_is_next.Goals as goal

pub returns : goal.returns
returns c = λ l sites s L told n G t h. tick-next l sites s L told n G t h
