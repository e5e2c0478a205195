-- What is left gives the same number.
use Rattle.std.proofs.Common.{◌≡◌, ◌+◌, length}
use Rattle.orc_tally.specs.Sight.{number_from}
use Rattle.orc_tally.proofs.sight.claim_number.Given as goal

abbrev pub decreases-loop-rest : goal.decreases-loop-rest
decreases-loop-rest l = length l.rest

abbrev pub invariant-loop-rest : goal.invariant-loop-rest
invariant-loop-rest l = (number_from l.number l.rest l.site l.arguments ≡ number_from 0 l.fn.sites l.fn.site l.fn.arguments) × (l.number + length l.rest ≡ length l.fn.sites)
