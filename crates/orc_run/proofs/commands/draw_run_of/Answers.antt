use Rattle.std.proofs.Common.{refl, subst}
use Rattle.orc_run.specs.Drawn.{IsRunUndrawnFor}
use Rattle.orc_run.proofs.KnownFiles.{held_before, read_before}
use Rattle.orc_run.proofs.Sound.{of_undrawn}
use Rattle.orc_run.proofs.commands.draw_run_of.Goals as goal

-- a run of the files that the words name was drawn
pub returns-in-Ok-clause-done : goal.returns-in-Ok-clause-done
returns-in-Ok-clause-done g c = (
  c.as_slice.result.now,
  c.as_slice-2.result.now,
  held_before _ _ _ _ refl c.as_slice.ensures.value c.in_ok-source.ensures.held,
  read_before _ _ _ _ _ c.in_ok-source.ensures.same c.as_slice-2.ensures.value c.in_ok-script_text.ensures.held,
  c.in-Ok.ensures.drawn,
  refl,
)

pub returns-in-Err-Fault-clause-cause : goal.returns-in-Err-Fault-clause-cause
returns-in-Err-Fault-clause-cause g c = (
  c.as_slice.result.now,
  c.as_slice-2.result.now,
  held_before _ _ _ _ refl c.as_slice.ensures.value c.in_ok-source.ensures.held,
  read_before _ _ _ _ _ c.in_ok-source.ensures.same c.as_slice-2.ensures.value c.in_ok-script_text.ensures.held,
  subst (IsRunUndrawnFor c.as_slice.result.now c.as_slice-2.result.now c.args.options.now.run) c.in-Err-Fault.field-0-is c.in-Err-Fault.ensures.cause,
)

pub returns-clause-cause : goal.returns-clause-cause
returns-clause-cause g c = (
  c.as_slice.result.now,
  c.as_slice-2.result.now,
  held_before _ _ _ _ refl c.as_slice.ensures.value c.in_ok-source.ensures.held,
  read_before _ _ _ _ _ c.in_ok-source.ensures.same c.as_slice-2.ensures.value c.in_ok-script_text.ensures.held,
  subst (IsRunUndrawnFor c.as_slice.result.now c.as_slice-2.result.now c.args.options.now.run) c.in-Err-Rows.field-0-is c.in-Err-Rows.ensures.cause,
)

-- a failure isn't the engine's
pub returns-in-Err-Fault-clause-sound : goal.returns-in-Err-Fault-clause-sound
returns-in-Err-Fault-clause-sound g c = of_undrawn c.args.options.now.run _ _ c.in-Err-Fault.field-0-is c.in-Err-Fault.ensures.range c.in-Err-Fault.ensures.sound
