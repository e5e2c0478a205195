-- What is left gives the same.
use Rattle.std.proofs.Common.{◌≡◌, ◌∷◌, [], length}
use Rattle.orc_cases.specs.Choices.{begin, with_replies}
use Rattle.orc_cases.specs.Values.{choices_from}
use Rattle.orc_cases.proofs.choices.histories.Given as goal

abbrev pub decreases-loop-rest : goal.decreases-loop-rest
decreases-loop-rest l = length l.rest

abbrev pub invariant-loop-rest : goal.invariant-loop-rest
invariant-loop-rest l = with_replies (choices_from l.all.items) l.rest ≡ with_replies (begin l.fn.off ∷ []) l.fn.replies
