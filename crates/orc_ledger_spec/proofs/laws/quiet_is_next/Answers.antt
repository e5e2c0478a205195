use Rattle.orc_ledger_spec.proofs.Withheld.{quiet-next}
use Rattle.orc_ledger_spec.proofs.laws.quiet_is_next.Goals as goal

pub returns : goal.returns
returns c = λ l sites s L told n G h. quiet-next l sites s L told n G h
