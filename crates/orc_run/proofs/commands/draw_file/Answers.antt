use Rattle.std.proofs.Common.{refl, subst}
use Rattle.orc_run.specs.Drawn.{IsBeyondDrawing, IsUndrawnFor}
use Rattle.orc_run.proofs.KnownFiles.{all_before, of_known_all}
use Rattle.orc_run.proofs.LoadFaults.{drawing_untaken}
use Rattle.orc_run.proofs.Sound.{of_drawing}
use Rattle.orc_run.proofs.commands.draw_file.Goals as goal

-- the journal of the files that the words name was drawn
pub returns-in-Ok-clause-done : goal.returns-in-Ok-clause-done
returns-in-Ok-clause-done g c =
    let before = all_before _ _ _ _ _ _ _ _ _ _ _ _ c.in_ok-source.ensures.same c.in_ok-text.ensures.same c.as_slice.ensures.value c.as_slice-3.ensures.value c.as_slice-2.ensures.value
    c.in_ok-source.ensures.held c.in_ok-text.ensures.held c.in_ok-script_text.ensures.held in
    (c.as_slice.result.now, c.as_slice-3.result.now, c.as_slice-2.result.now, before.0, before.1, before.2, c.in-Ok.ensures.drawn, refl)

pub returns-in-Err-Fault-clause-cause : goal.returns-in-Err-Fault-clause-cause
returns-in-Err-Fault-clause-cause g c =
    let before = all_before _ _ _ _ _ _ _ _ _ _ _ _ c.in_ok-source.ensures.same c.in_ok-text.ensures.same c.as_slice.ensures.value c.as_slice-3.ensures.value c.as_slice-2.ensures.value
    c.in_ok-source.ensures.held c.in_ok-text.ensures.held c.in_ok-script_text.ensures.held in
    (c.as_slice.result.now, c.as_slice-3.result.now, c.as_slice-2.result.now, before.0, before.1, before.2, subst (IsUndrawnFor c.as_slice.result.now c.as_slice-2.result.now c.as_slice-3.result.now) c.in-Err-Fault.field-0-is c.in-Err-Fault.ensures.cause)

pub returns-clause-cause : goal.returns-clause-cause
returns-clause-cause g c =
    let before = all_before _ _ _ _ _ _ _ _ _ _ _ _ c.in_ok-source.ensures.same c.in_ok-text.ensures.same c.as_slice.ensures.value c.as_slice-3.ensures.value c.as_slice-2.ensures.value
    c.in_ok-source.ensures.held c.in_ok-text.ensures.held c.in_ok-script_text.ensures.held in
    (c.as_slice.result.now, c.as_slice-3.result.now, c.as_slice-2.result.now, before.0, before.1, before.2, subst (IsUndrawnFor c.as_slice.result.now c.as_slice-2.result.now c.as_slice-3.result.now) c.in-Err-Rows.field-0-is c.in-Err-Rows.ensures.cause)

-- a failure isn't the engine's
pub returns-in-Err-Fault-clause-sound : goal.returns-in-Err-Fault-clause-sound
returns-in-Err-Fault-clause-sound g c = of_drawing _ _ _ _ _ c.in-Err-Fault.field-0-is c.in-Err-Fault.ensures.cause

-- the journal of a run is drawn, unless it is beyond a limit
pub returns-in-Err-Fault-clause-beyond : goal.returns-in-Err-Fault-clause-beyond
returns-in-Err-Fault-clause-beyond g c = λ s known.
    let (source, text, read, is_file, is_journal, is_script, of) = known in
    let before = all_before _ _ _ _ _ _ _ _ _ _ _ _ c.in_ok-source.ensures.same c.in_ok-text.ensures.same c.as_slice.ensures.value c.as_slice-3.ensures.value c.as_slice-2.ensures.value
    c.in_ok-source.ensures.held c.in_ok-text.ensures.held c.in_ok-script_text.ensures.held in
    drawing_untaken _ (subst IsBeyondDrawing c.in-Err-Fault.field-0-is (c.in-Err-Fault.ensures.beyond s (of_known_all _ _ _ _ s source text read _ _ _ is_file is_journal is_script of before.0 before.1 before.2)))
