use Rattle.orc_ledger_spec.proofs.Working.{work-allowed}
use Rattle.orc_ledger_spec.proofs.laws.work_is_allowed.Goals as goal

pub returns : goal.returns
returns c = λ l sites s L told n G h. work-allowed l sites s L told n G h
