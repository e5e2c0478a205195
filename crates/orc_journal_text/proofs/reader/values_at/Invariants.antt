use Rattle.std.proofs.Common.{◌≡◌, ◌-◌, length}
use Rattle.orc_rules.specs.declared.limits.TheConstants.{MOST_ARGUMENTS}
use Rattle.orc_journal_text.specs.Reading.{values_at}
use Rattle.orc_journal_text.proofs.Loops.{with_front}
use Rattle.orc_journal_text.proofs.reader.values_at.Given as goal

abbrev pub invariant-loop : goal.invariant-loop
invariant-loop l = record { so_far : with_front l.args (values_at (MOST_ARGUMENTS - l.counter) l.rest) ≡ values_at MOST_ARGUMENTS l.bytes; count : length l.args ≡ l.counter }
