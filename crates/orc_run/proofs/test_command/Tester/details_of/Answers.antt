-- What stands below a failure.
use Rattle.std.proofs.Common.{◌∙◌}
use Rattle.orc_run.proofs.Detailing.{below_it}
use Rattle.orc_run.proofs.test_command.Tester.details_of.Goals as goal

pub returns-in-Trial-clause-detail : goal.returns-in-Trial-clause-detail
returns-in-Trial-clause-detail g c = (c.in_ok-script.script.now, c.in_ok-script.ensures.script, below_it c.args.self.now.trials.now c.args.self.now.explains c.in_ok-script.script.now _ _ c.args.number c.args.claim _ _ _ (c.as_slice-lines.ensures.value ∙ c.in_ok-unusual.ensures.lines) c.in-Trial.is c.in_ok-text-in-Trial.ensures.below)

pub returns-clause-detail : goal.returns-clause-detail
returns-clause-detail g c = (c.in_ok-script.script.now, c.in_ok-script.ensures.script, below_it c.args.self.now.trials.now c.args.self.now.explains c.in_ok-script.script.now _ _ c.args.number c.args.claim _ _ _ (c.as_slice-lines.ensures.value ∙ c.in_ok-unusual.ensures.lines) c.in-Schedule.is c.in_ok-text-in-Schedule.ensures.below)
