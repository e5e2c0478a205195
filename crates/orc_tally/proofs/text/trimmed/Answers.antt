-- The words of the standard library, as a function.
use Rattle.orc_tally.proofs.Trimming.{trims}
use Rattle.orc_tally.proofs.text.trimmed.Goals as goal

pub returns : goal.returns
returns c = trims c.args.text.now c.trim_ascii.result.now c.trim_ascii.ensures.value
