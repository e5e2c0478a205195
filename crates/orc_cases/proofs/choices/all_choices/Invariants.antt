-- The calls that are left give the same.
use Rattle.std.proofs.Common.{◌≡◌}
use Rattle.orc_ways.specs.Values.{service_of}
use Rattle.orc_cases.specs.Choices.{all_choices, with_calls}
use Rattle.orc_cases.specs.Values.{choices_from}
use Rattle.orc_cases.proofs.choices.all_choices.Given as goal

abbrev pub decreases-loop-left : goal.decreases-loop-left
decreases-loop-left l = l.left

abbrev pub invariant-loop-left : goal.invariant-loop-left
invariant-loop-left l = with_calls (choices_from l.options.items) l.left (choices_from l.all.items) ≡ all_choices (service_of l.fn.service)
