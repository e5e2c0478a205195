use Rattle.std.proofs.Common.{◌≤◌, length}
use Rattle.orc_rules.specs.declared.limits.TheConstants.{MOST_ROWS}
use Rattle.orc_draw.proofs.rows.Rows.new.Given as goal

abbrev pub invariant-loop-span : goal.invariant-loop-span
invariant-loop-span l = length l.rows.rows.items ≤ MOST_ROWS
