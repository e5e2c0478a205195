use Rattle.orc_ledger_spec.proofs.Offers.{offered}
use Rattle.orc_ledger_spec.proofs.laws.word_is_offered.Goals as goal

pub returns : goal.returns
returns c = λ l sites s L t i e w is. offered l sites s L t i e w is
