-- The lines of the values so far.
use Rattle.std.proofs.Common.{◌≡◌, ◌++◌, take}
use Rattle.orc_rules.specs.Text.{output}
use Rattle.orc_journal_text.proofs.writer.write_publications.Given as goal

abbrev pub invariant-loop-value : goal.invariant-loop-value
invariant-loop-value l = l.out.items ≡ l.fn.out.items ++ output (take l.value-index l.values)
