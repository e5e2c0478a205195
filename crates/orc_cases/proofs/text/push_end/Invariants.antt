-- What is left lacks the same end as the text.
use Rattle.std.proofs.Common.{◌≡◌, ◌++◌, length}
use Rattle.orc_cases.specs.Texts.{lacking_end}
use Rattle.orc_cases.proofs.text.push_end.Given as goal

abbrev pub decreases-loop-rest : goal.decreases-loop-rest
decreases-loop-rest l = length l.rest

abbrev pub invariant-loop-rest : goal.invariant-loop-rest
invariant-loop-rest l = l.out.items ++ lacking_end l.rest ≡ l.fn.out.items ++ lacking_end l.fn.text
