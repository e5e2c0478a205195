-- The whole is the same where what is left is.
use Rattle.std.proofs.Common.{◌≡◌, length}
use Rattle.orc_claims.proofs.event_match.are_same.Given as goal

abbrev pub decreases-loop-rest : goal.decreases-loop-rest
decreases-loop-rest l = length l.rest

abbrev pub invariant-loop-rest : goal.invariant-loop-rest
invariant-loop-rest l = l.rest ≡ l.others → l.fn.one ≡ l.fn.other
