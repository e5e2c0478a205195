use Rattle.orc_ledger_spec.proofs.Nexts.{next_work, causes_work}
use Rattle.orc_ledger_spec.proofs.laws.work_has_cause.Goals as goal

pub returns : goal.returns
returns c = λ l sites s L told n G. (next_work l sites s L told n G, causes_work l sites s L told n G)
