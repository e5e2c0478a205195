-- Each turn so far has added an entry that counts, and no cancel is due.
use Rattle.orc_reference.specs.Stories.{IsReached}
use Rattle.orc_reference.proofs.reference.proceed.Given as goal

abbrev pub invariant-loop-turn : goal.invariant-loop-turn
invariant-loop-turn g l = IsReached l.program l.answers 0 l.initial.history → IsReached l.program l.answers l._turn l.history
