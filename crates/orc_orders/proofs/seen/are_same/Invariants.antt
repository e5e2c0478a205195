-- What is left is the same where the whole is.
use Rattle.std.proofs.Common.{◌≡◌, length}
use Rattle.orc_rules.specs.Sites.{values_eq}
use Rattle.orc_orders.proofs.seen.are_same.Given as goal

abbrev pub decreases-loop-rest : goal.decreases-loop-rest
decreases-loop-rest l = length l.rest

abbrev pub invariant-loop-rest : goal.invariant-loop-rest
invariant-loop-rest l = values_eq l.rest l.others ≡ values_eq l.fn.one l.fn.other
