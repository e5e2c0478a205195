-- What stands below a failure that a schedule shows.
use Rattle.orc_run.proofs.test_command.Tester.details_of_schedule.Goals as goal

pub returns-in-Ok-schedule_text-clause-below : goal.returns-in-Ok-schedule_text-clause-below
returns-in-Ok-schedule_text-clause-below g c = record { found = c.in-Ok.found; sighted = c.in-Ok.ensures; is = c.in-Ok-schedule_text.ensures }
