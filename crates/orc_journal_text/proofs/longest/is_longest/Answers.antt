use Rattle.std.proofs.Common.{◌-◌, length, arith}
use Rattle.orc_journal_text.proofs.Lengths.{line_length}
use Rattle.orc_journal_text.specs.declared.longest.TheConstants.{MOST_UNNAMED}
use Rattle.orc_journal_text.proofs.longest.is_longest.Goals as goal

pub returns-then-bytes-ge-MOST_UNNAMED-clause-longest : goal.returns-then-bytes-ge-MOST_UNNAMED-clause-longest
returns-then-bytes-ge-MOST_UNNAMED-clause-longest c within e fits =
    omega (arith, line_length c.args.answers.now.names (length c.args.bytes.now - MOST_UNNAMED) (c.are_names_within.ensures within) e fits, c.if-bytes-ge-MOST_UNNAMED.true)
