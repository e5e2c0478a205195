use Rattle.std.proofs.Common.{◌≡◌, take}
use Rattle.orc_journal.proofs.rows.args_of.Given as goal

abbrev pub invariant-loop-value : goal.invariant-loop-value
invariant-loop-value l = l.args ≡ take l.value-index l.values
