use Rattle.std.proofs.Common.{length}
use Rattle.orc_journal_text.proofs.fit.+values_fit.Given as goal

abbrev pub decreases-values_fit : goal.decreases-values_fit
decreases-values_fit l = length l.list.now
