use Rattle.std.proofs.Common.{subst}
use Rattle.orc_run.specs.Claimed.{IsUnclaimedFor}
use Rattle.orc_run.proofs.KnownFiles.{four_before, of_known_all}
use Rattle.orc_run.proofs.LoadFaults.{claims_untaken}
use Rattle.orc_run.proofs.Sound.{of_claims, of_test_text}
use Rattle.orc_run.proofs.commands.claims_file.Goals as goal

-- the files that the words name were held against the test
pub returns-in-Ok-clause-done : goal.returns-in-Ok-clause-done
returns-in-Ok-clause-done g c =
    let before = four_before _ _ _ _ _ _ _ _ _ _ _ _ _ _ _ _ c.in_ok-source.ensures.same c.in_ok-lines.ensures.same c.in_ok-claims.ensures.same
    c.as_slice.ensures.value c.as_slice-4.ensures.value c.as_slice-2.ensures.value c.as_slice-3.ensures.value
    c.in_ok-source.ensures.held c.in_ok-lines.ensures.held c.in_ok-claims.ensures.held c.in_ok-script_text.ensures.held in
    (c.as_slice.result.now, c.as_slice-4.result.now, c.as_slice-2.result.now, c.as_slice-3.result.now, c.in-Ok.failing, before.0, before.1, before.2, before.3, c.in-Ok.ensures.claimed, c.claims_status.ensures)

pub returns-in-Err-Test-clause-cause : goal.returns-in-Err-Test-clause-cause
returns-in-Err-Test-clause-cause g c =
    let before = four_before _ _ _ _ _ _ _ _ _ _ _ _ _ _ _ _ c.in_ok-source.ensures.same c.in_ok-lines.ensures.same c.in_ok-claims.ensures.same
    c.as_slice.ensures.value c.as_slice-4.ensures.value c.as_slice-2.ensures.value c.as_slice-3.ensures.value
    c.in_ok-source.ensures.held c.in_ok-lines.ensures.held c.in_ok-claims.ensures.held c.in_ok-script_text.ensures.held in
    (c.as_slice.result.now, c.as_slice-4.result.now, c.as_slice-2.result.now, c.as_slice-3.result.now, before.0, before.1, before.2, before.3, subst (IsUnclaimedFor c.as_slice.result.now c.as_slice-2.result.now c.as_slice-3.result.now c.as_slice-4.result.now) c.in-Err-Test.field-0-is c.in-Err-Test.ensures.cause)

pub returns-clause-cause : goal.returns-clause-cause
returns-clause-cause g c =
    let before = four_before _ _ _ _ _ _ _ _ _ _ _ _ _ _ _ _ c.in_ok-source.ensures.same c.in_ok-lines.ensures.same c.in_ok-claims.ensures.same
    c.as_slice.ensures.value c.as_slice-4.ensures.value c.as_slice-2.ensures.value c.as_slice-3.ensures.value
    c.in_ok-source.ensures.held c.in_ok-lines.ensures.held c.in_ok-claims.ensures.held c.in_ok-script_text.ensures.held in
    (c.as_slice.result.now, c.as_slice-4.result.now, c.as_slice-2.result.now, c.as_slice-3.result.now, before.0, before.1, before.2, before.3, c.in-Err.ensures.cause)

-- a failure isn't the engine's
pub returns-in-Err-Test-clause-sound : goal.returns-in-Err-Test-clause-sound
returns-in-Err-Test-clause-sound g c = of_test_text _

pub returns-clause-sound : goal.returns-clause-sound
returns-clause-sound g c = of_claims _ _ _ _ _ c.in-Err.ensures.cause

-- the journal of a run is judged, unless it is beyond a limit
pub returns-clause-beyond : goal.returns-clause-beyond
returns-clause-beyond g c = λ s known.
    let (source, text, read, is_file, is_journal, is_script, of) = known in
    let before = four_before _ _ _ _ _ _ _ _ _ _ _ _ _ _ _ _ c.in_ok-source.ensures.same c.in_ok-lines.ensures.same c.in_ok-claims.ensures.same
    c.as_slice.ensures.value c.as_slice-4.ensures.value c.as_slice-2.ensures.value c.as_slice-3.ensures.value
    c.in_ok-source.ensures.held c.in_ok-lines.ensures.held c.in_ok-claims.ensures.held c.in_ok-script_text.ensures.held in
    claims_untaken c.in-Err.fault (c.in-Err.ensures.beyond s (of_known_all _ _ _ _ s source text read _ _ _ is_file is_journal is_script of before.0 before.1 before.3))
