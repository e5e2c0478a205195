use Rattle.std.proofs.Common.{subst}
use Rattle.orc_verdict.specs.Verdicts.{Stops}
use Rattle.orc_verdict.proofs.application.apply_at_any_depth.Goals as goal

pub returns-in-Err-clause-why : goal.returns-in-Err-clause-why
returns-in-Err-clause-why c = subst (λ z. Stops c.args.program.now c.args.answers.now c.args.entry.now z c.reason_or_memory.result) c.in-Err.ensures.refused c.reason_or_memory.ensures.why
