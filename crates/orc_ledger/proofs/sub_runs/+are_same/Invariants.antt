-- The values that are left.
use Rattle.std.proofs.Common.{length}
use Rattle.orc_ledger.proofs.sub_runs.+are_same.Given as goal

abbrev pub decreases-are_same : goal.decreases-are_same
decreases-are_same l = length l.values.now
