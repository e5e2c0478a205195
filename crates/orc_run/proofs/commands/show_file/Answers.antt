use Rattle.std.proofs.Common.{refl, subst}
use Rattle.orc_run.specs.Shown.{IsUnshownFor}
use Rattle.orc_run.proofs.KnownFiles.{held_before, read_before}
use Rattle.orc_run.proofs.Sound.{of_unshown}
use Rattle.orc_run.proofs.commands.show_file.Goals as goal

-- no outcome of the files that the words name has the number
pub returns-in-Err-NoOutcome-clause-cause : goal.returns-in-Err-NoOutcome-clause-cause
returns-in-Err-NoOutcome-clause-cause g c = (
  c.as_slice.result.now,
  c.as_slice-2.result.now,
  held_before _ _ _ _ refl c.as_slice.ensures.value c.in_ok-source.ensures.held,
  read_before _ _ _ _ _ c.in_ok-source.ensures.same c.as_slice-2.ensures.value c.in_ok-script_text.ensures.held,
  subst (IsUnshownFor c.as_slice.result.now c.as_slice-2.result.now c.args.options.now.survey.orders c.args.options.now.survey.limit c.args.options.now.number) c.in-Err-NoOutcome.field-0-is c.in-Err-NoOutcome.ensures.cause,
)

-- there is one, and no run was found that has it
pub returns-clause-cause : goal.returns-clause-cause
returns-clause-cause g c = (
  c.as_slice.result.now,
  c.as_slice-2.result.now,
  held_before _ _ _ _ refl c.as_slice.ensures.value c.in_ok-source.ensures.held,
  read_before _ _ _ _ _ c.in_ok-source.ensures.same c.as_slice-2.ensures.value c.in_ok-script_text.ensures.held,
  subst (IsUnshownFor c.as_slice.result.now c.as_slice-2.result.now c.args.options.now.survey.orders c.args.options.now.survey.limit c.args.options.now.number) c.in-Err-NoRun.field-0-is c.in-Err-NoRun.ensures.cause,
)

-- a failure isn't the engine's
pub returns-in-Err-Fault-clause-sound : goal.returns-in-Err-Fault-clause-sound
returns-in-Err-Fault-clause-sound g c = of_unshown _ _ _ _ c.in-Err-Fault.field-0-is c.in-Err-Fault.ensures.range c.in-Err-Fault.ensures.sound
