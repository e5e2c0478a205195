use Rattle.std.proofs.Common.{length}
use Rattle.orc_journal_text.proofs.writer.+push_closing.Given as goal

abbrev pub decreases-push_closing : goal.decreases-push_closing
decreases-push_closing l = length l.args.now
