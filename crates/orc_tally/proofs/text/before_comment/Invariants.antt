-- What is left ends where the text does.
use Rattle.std.proofs.Common.{◌≡◌, ◌+◌, ◌++◌, length, drop, take}
use Rattle.orc_tally.specs.Table.{before_comment}
use Rattle.orc_tally.proofs.text.before_comment.Given as goal

abbrev pub decreases-loop-rest : goal.decreases-loop-rest
decreases-loop-rest l = length l.rest

abbrev pub invariant-loop-rest : goal.invariant-loop-rest
invariant-loop-rest l = (l.rest ≡ drop l.end l.fn.text) × (l.end + length l.rest ≡ length l.fn.text) × (take l.end l.fn.text ++ before_comment l.rest ≡ before_comment l.fn.text)
