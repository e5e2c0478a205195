use Rattle.std.proofs.Common.{◌≡◌, ◌<◌, ◌+◌, ◌-◌, ◌^◌, length}
use Rattle.std.specs.Io.KnownBytes.{Consumes}
use Rattle.orc_rules.specs.declared.limits.TheConstants.{LONGEST_JOURNAL}
use Rattle.orc_journal_text.proofs.lines.Lines.new.Given as goal

-- all that has come is the rest
abbrev pub invariant-loop-version : goal.invariant-loop-version
invariant-loop-version g l = Consumes (g.R.Read.remaining l.fn.source) l.pieces.left l.pieces.rest × (l.pieces.came ≡ length l.pieces.rest) × (l.pieces.came < LONGEST_JOURNAL + 2 ^ 63)

abbrev pub decreases-loop-version : goal.decreases-loop-version
decreases-loop-version g l = 2 ^ 64 - l.pieces.came
