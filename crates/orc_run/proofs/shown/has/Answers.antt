use Rattle.std.proofs.Common.{◌∙◌, sym}
use Rattle.orc_rules.proofs.Values.{values_decide}
use Rattle.orc_run.proofs.shown.has.Goals as goal

pub returns-then-eq-clause-values : goal.returns-then-eq-clause-values
returns-then-eq-clause-values c = λ h. sym c.as_slice.ensures.value ∙ (values_decide c.as_slice.result.now c.args.outcome.values.now).0 (sym c.are_same.ensures ∙ h)
