use Rattle.orc_ledger_spec.proofs.Causes.{offer}
use Rattle.orc_ledger_spec.proofs.laws.word_is_allowed.Goals as goal

pub returns : goal.returns
returns c = λ l sites s L t i moves. offer l sites s L t i moves
