-- What is left gives the rest of the text.
use Rattle.std.proofs.Common.{◌≡◌, ◌++◌, length, map}
use Rattle.orc_cases.specs.Texts.{halts_text}
use Rattle.orc_cases.proofs.text.push_halts.Given as goal

abbrev pub decreases-loop-rest : goal.decreases-loop-rest
decreases-loop-rest l = length l.rest

abbrev pub invariant-loop-rest : goal.invariant-loop-rest
invariant-loop-rest l = l.out.items ++ halts_text (map (λ n. n.now) l.rest) ≡ l.fn.out.items ++ halts_text (map (λ n. n.now) l.fn.names)
