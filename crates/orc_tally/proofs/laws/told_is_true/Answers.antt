use Rattle.orc_tally.proofs.Truth.{told_is_true}
use Rattle.orc_tally.proofs.laws.told_is_true.Goals as goal

pub returns : goal.returns
returns c = told_is_true
