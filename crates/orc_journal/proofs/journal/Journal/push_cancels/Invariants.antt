use Rattle.std.proofs.Common.{◌≡◌, take, map}
use Rattle.orc_rules.specs.declared.entry.Entry.TheVariants.{Cancel}
use Rattle.orc_journal.specs.Written.{journal_with}
use Rattle.orc_journal.proofs.journal.Journal.push_cancels.Given as goal

abbrev pub invariant-loop-call : goal.invariant-loop-call
invariant-loop-call l = l.self ≡ journal_with l.initial.self (map Cancel (take l.call-index l.calls))
