-- What is left has the other choices.
use Rattle.std.proofs.Common.{◌≡◌, ◌++◌}
use Rattle.std.specs.Prelude.{filter, not}
use Rattle.orc_cases.specs.Choices.{is_off}
use Rattle.orc_cases.specs.Values.{choices_from}
use Rattle.orc_cases.proofs.choices.off_first.Given as goal

abbrev pub invariant-loop-choice : goal.invariant-loop-choice
invariant-loop-choice l = record {
  off_so_far : choices_from l.off.items ++ filter is_off (choices_from l.choice-iterator.rest.items) ≡ filter is_off (choices_from l.fn.choices.items);
  usual_so_far : choices_from l.usual.items ++ filter (λ c. not (is_off c)) (choices_from l.choice-iterator.rest.items) ≡ filter (λ c. not (is_off c)) (choices_from l.fn.choices.items);
}
