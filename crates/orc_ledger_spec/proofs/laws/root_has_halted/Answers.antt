use Rattle.orc_ledger_spec.proofs.Ended.{root-halted}
use Rattle.orc_ledger_spec.proofs.laws.root_has_halted.Goals as goal

pub returns : goal.returns
returns c = λ l sites s L n G empty. root-halted l sites s L n G empty
