use Rattle.std.proofs.Common.{refl, subst}
use Rattle.orc_run.specs.Checked.{MayFail}
use Rattle.orc_run.proofs.judge.check_text.Goals as goal

-- ---- the journal of a run

pub returns-in-Ok-clause-accepted : goal.returns-in-Ok-clause-accepted
returns-in-Ok-clause-accepted g c = λ s of. c.in-Ok.ensures.accepted c.args.journal.now s refl of

pub returns-in-Err-Fault-clause-beyond : goal.returns-in-Err-Fault-clause-beyond
returns-in-Err-Fault-clause-beyond g c = λ s of. subst MayFail c.in-Err-Fault.field-0-is (c.in-Err-Fault.ensures.beyond c.args.journal.now s refl of)
