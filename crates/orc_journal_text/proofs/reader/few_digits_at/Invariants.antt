use Rattle.std.proofs.Common.{◌≡◌, ◌<◌, ◌≤◌, ◌-◌, ◌*◌, ◌^◌, drop}
use Rattle.orc_rules.specs.Digits.{digits_from}
use Rattle.orc_journal_text.proofs.reader.few_digits_at.Given as goal

abbrev pub invariant-loop-at : goal.invariant-loop-at
invariant-loop-at l = record { within : l.at ≤ 16; same : digits_from l.number (drop l.at l.bytes) ≡ digits_from 0 l.bytes; small : l.number < 2 ^ (4 * l.at) }

abbrev pub decreases-loop-at : goal.decreases-loop-at
decreases-loop-at l = 16 - l.at
