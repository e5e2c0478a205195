use Rattle.std.proofs.Common.{◌≡◌, length}
use Rattle.orc_journal_text.specs.Reading.{after}
use Rattle.orc_journal_text.proofs.reader.after.Given as goal

abbrev pub invariant-loop-left : goal.invariant-loop-left
invariant-loop-left l = after l.left l.rest ≡ after l.text l.bytes

abbrev pub decreases-loop-left : goal.decreases-loop-left
decreases-loop-left l = length l.left
