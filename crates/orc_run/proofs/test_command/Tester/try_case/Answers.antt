-- What is told of a case.
use Rattle.std.proofs.Common.{refl}
use Rattle.orc_run.proofs.Testing.{all_told, trial_sound}
use Rattle.orc_run.proofs.Untold.{untried_ways}
use Rattle.orc_run.proofs.test_command.Tester.try_case.Goals as goal

pub returns-in-Err-clause-sound : goal.returns-in-Err-clause-sound
returns-in-Err-clause-sound g c own = trial_sound c.args.self.now.trials.now _ _ _ _ (c.in-Ok.ensures _ _ _ _) c.in-Err.ensures.cause c.run_fault.ensures own

pub returns-in-Err-clause-cause : goal.returns-in-Err-clause-cause
returns-in-Err-clause-cause g c = untried_ways c.args.self.now.trials.now c.args.self.now.options.now.workers _ _ _ c.try_ways.result _ _ (c.in-Ok.ensures _ _ _ _) c.in-Err.ensures.cause c.in-Err.is c.try_ways.ensures.range.0 c.run_fault.ensures c.as_slice.ensures.value

pub returns-clause-tried : goal.returns-clause-tried
returns-clause-tried g c = (all_told c.args.self.now.trials.now _ _ _ _ (c.in-Ok.ensures _ _ _ _) c.in_default-try_ways.ensures.told c.as_slice.ensures.value, refl)
