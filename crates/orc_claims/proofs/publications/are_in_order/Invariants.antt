-- What is left is in order where the whole is.
use Rattle.std.proofs.Common.{◌≡◌, length}
use Rattle.orc_rules.specs.Sites.{matches}
use Rattle.orc_claims.proofs.publications.are_in_order.Given as goal

abbrev pub decreases-loop-rest : goal.decreases-loop-rest
decreases-loop-rest l = length l.rest

abbrev pub invariant-loop-rest : goal.invariant-loop-rest
invariant-loop-rest l = matches l.rest l.others ≡ matches l.fn.wanted l.fn.values
