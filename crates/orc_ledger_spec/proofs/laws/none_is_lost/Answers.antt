use Rattle.orc_ledger_spec.proofs.Words.{none-lost}
use Rattle.orc_ledger_spec.proofs.laws.none_is_lost.Goals as goal

pub returns : goal.returns
returns c = λ l sites s L e q serial w leads is. none-lost l sites s L e q serial w leads is
