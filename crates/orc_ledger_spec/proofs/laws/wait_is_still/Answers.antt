use Rattle.orc_ledger_spec.proofs.Offers.{it_waits}
use Rattle.orc_ledger_spec.proofs.laws.wait_is_still.Goals as goal

pub returns : goal.returns
returns c = λ l sites s L t i. it_waits l sites s L t i
