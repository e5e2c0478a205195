use Rattle.orc_word.proofs.Runs.{counts_hold}
use Rattle.orc_word.proofs.laws.counts.Goals as goal

pub returns : goal.returns
returns c = counts_hold
