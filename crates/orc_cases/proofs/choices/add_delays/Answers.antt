-- One delay more.
use Rattle.std.proofs.Common.{◌≡◌, ◌++◌, ◌∷◌, [], ap, ◌∙◌, arith}
use Rattle.std.specs.Prelude.{nat_lt}
use Rattle.std.proofs.lemmas.List.{map-append}
use Rattle.orc_rules.specs.declared.value.Found.TheVariants.{After}
use Rattle.orc_cases.specs.Choices.{Choice, one_answer}
use Rattle.orc_cases.specs.Values.{choice_of, choices_from}
use Rattle.orc_cases.proofs.Lists.{range_step_one}
use Rattle.orc_cases.proofs.choices.add_delays.Goals as goal

pub loop-delay-preserved : goal.loop-delay-preserved
loop-delay-preserved c =
    let added : choices_from c.push.new.self.items ≡ choices_from c.loop-delay.all.items ++ one_answer (nat_lt c.args.low c.args.high) (After c.args.answer c.loop-delay.delay) ∷ [] =
    ap choices_from c.in_ok-push.ensures.items ∙ map-append choice_of c.loop-delay.all.items (c.in_ok-one_answer.field-0 ∷ []) ∙ ap (λ (x : Choice). choices_from c.loop-delay.all.items ++ x ∷ []) c.in_ok-one_answer.ensures in
    record {
      within = omega (arith, c.if-delay-high.false);
      so_far = range_step_one (λ d. one_answer (nat_lt c.args.low c.args.high) (After c.args.answer d)) c.loop-delay.delay c.args.high (choices_from c.loop-delay.all.items) (choices_from c.push.new.self.items) _ c.loop-delay.invariant.within added c.loop-delay.invariant.so_far;
    }
