-- The delays that are left give the other answers.
use Rattle.std.proofs.Common.{◌≡◌, ◌++◌, ◌≤◌, ◌-◌, suc, map}
use Rattle.std.specs.Prelude.{nat_lt}
use Rattle.std.specs.List.{range_with_len}
use Rattle.orc_rules.specs.declared.value.Found.TheVariants.{After}
use Rattle.orc_cases.specs.Choices.{one_answer}
use Rattle.orc_cases.specs.Values.{choices_from}
use Rattle.orc_cases.proofs.choices.add_delays.Given as goal

abbrev pub decreases-loop-delay : goal.decreases-loop-delay
decreases-loop-delay l = suc l.fn.high - l.delay

abbrev pub invariant-loop-delay : goal.invariant-loop-delay
invariant-loop-delay l = record {
  within : l.delay ≤ l.fn.high;
  so_far : choices_from l.all.items ++ map (λ d. one_answer (nat_lt l.fn.low l.fn.high) (After l.fn.answer d)) (range_with_len l.delay (suc l.fn.high - l.delay)) ≡ choices_from l.fn.all.items ++ map (λ d. one_answer (nat_lt l.fn.low l.fn.high) (After l.fn.answer d)) (range_with_len l.fn.low (suc l.fn.high - l.fn.low));
}
