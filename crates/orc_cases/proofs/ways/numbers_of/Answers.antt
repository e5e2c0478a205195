-- The places of the weights are the numbers of the ways.
use Rattle.std.proofs.Common.{[], ◌∷◌, ap, ◌∙◌}
use Rattle.orc_cases.specs.Values.{all_choices_of}
use Rattle.orc_cases.specs.Weights.{each_plus_all, nothing, numbers_in_order}
use Rattle.orc_cases.proofs.Limit.{ordered}
use Rattle.orc_cases.proofs.ways.numbers_of.Goals as goal

pub returns : goal.returns
returns c = ordered c.args.frame.now c.in_ok-weights.weights.items c.in_ok-numbers.numbers.items c.requires
    (c.in_ok-weights.ensures ∙ ap (λ ls. each_plus_all (nothing ∷ []) (all_choices_of ls)) c.as_slice-lines.ensures.value)
    (c.in_ok-numbers.ensures ∙ ap numbers_in_order c.as_slice-weighed.ensures.value)
