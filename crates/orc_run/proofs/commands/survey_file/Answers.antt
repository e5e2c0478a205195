use Rattle.std.proofs.Common.{refl}
use Rattle.orc_run.proofs.KnownFiles.{held_before, read_before}
use Rattle.orc_run.proofs.Sound.{of_run}
use Rattle.orc_run.proofs.commands.survey_file.Goals as goal

-- the outcomes of the files that the words name were told
pub returns-in-Ok-clause-done : goal.returns-in-Ok-clause-done
returns-in-Ok-clause-done g c = (
  c.as_slice.result.now,
  c.as_slice-2.result.now,
  held_before _ _ _ _ refl c.as_slice.ensures.value c.in_ok-source.ensures.held,
  read_before _ _ _ _ _ c.in_ok-source.ensures.same c.as_slice-2.ensures.value c.in_ok-script_text.ensures.held,
  c.in-Ok.ensures.surveyed,
  refl,
)

-- a failure isn't the engine's
pub returns-clause-sound : goal.returns-clause-sound
returns-clause-sound g c = of_run _ _ _ c.in-Err.ensures.range c.in-Err.ensures.sound
