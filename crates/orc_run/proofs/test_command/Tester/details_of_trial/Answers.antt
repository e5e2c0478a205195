-- What stands below a failure that an order showed.
use Rattle.std.proofs.Common.{◌≡◌, ◌++◌, rules}
use Rattle.orc_run.proofs.Detailing.{of_trial}
use Rattle.orc_run.proofs.test_command.Tester.details_of_trial.Goals as goal

pub returns-clause-below : goal.returns-clause-below
returns-clause-below g c =
    let grown : c.extend_from_slice.new.self.items ≡ c.in-Ok.text.items ++ c.as_slice.result.now = search rules in
    of_trial c.args.self.now.trials.now c.args.self.now.explains c.args.script.now c.args.lines.now c.args.number c.args.claim c.args.shown.failure c.in_ok-run.run' _ _ _ _ c.in_ok-run.ensures.fails c.in-Ok.ensures c.in_ok-more.ensures.unasked c.as_slice.ensures.value grown
