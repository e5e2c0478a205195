use Rattle.orc_run.proofs.Sound.{of_print}
use Rattle.orc_run.proofs.commands.print_file.Goals as goal

-- a failure isn't the engine's
pub returns-clause-sound : goal.returns-clause-sound
returns-clause-sound g c = of_print _ _ c.in-Err.ensures.cause
