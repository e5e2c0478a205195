use Rattle.std.proofs.Common.{subst}
use Rattle.orc_run.specs.TestFaults.{IsTestFaultOf, IsUntestedFor}
use Rattle.orc_run.proofs.KnownFiles.{all_before}
use Rattle.orc_run.proofs.Sound.{of_test, of_test_text}
use Rattle.orc_run.proofs.commands.test_file.Goals as goal

-- the program of the file that the words name was held against the test
pub returns-in-Ok-clause-done : goal.returns-in-Ok-clause-done
returns-in-Ok-clause-done g c =
    let before = all_before _ _ _ _ _ _ _ _ _ _ _ _ c.in_ok-source.ensures.same c.in_ok-claims.ensures.same c.as_slice.ensures.value c.as_slice-2.ensures.value c.as_slice-3.ensures.value
    c.in_ok-source.ensures.held c.in_ok-claims.ensures.held c.in_ok-script_text.ensures.held in
    (c.as_slice.result.now, c.as_slice-2.result.now, c.as_slice-3.result.now, c.in-Ok.failing, before.0, before.1, before.2, c.in-Ok.ensures.tested, c.claims_status.ensures)

pub returns-in-Err-Fault-Test-clause-cause : goal.returns-in-Err-Fault-Test-clause-cause
returns-in-Err-Fault-Test-clause-cause g c =
    let before = all_before _ _ _ _ _ _ _ _ _ _ _ _ c.in_ok-source.ensures.same c.in_ok-claims.ensures.same c.as_slice.ensures.value c.as_slice-2.ensures.value c.as_slice-3.ensures.value
    c.in_ok-source.ensures.held c.in_ok-claims.ensures.held c.in_ok-script_text.ensures.held in
    (c.as_slice.result.now, c.as_slice-2.result.now, c.as_slice-3.result.now, before.0, before.1, before.2, subst (IsTestFaultOf c.as_slice.result.now c.as_slice-2.result.now c.as_slice-3.result.now c.args.options.now) c.in-Err-Fault-Test.field-0-0-is (subst (IsUntestedFor c.as_slice.result.now c.as_slice-2.result.now c.as_slice-3.result.now c.args.options.now) c.in-Err-Fault-Test.field-0-is c.in-Err-Fault-Test.ensures.cause))

pub returns-in-Err-Fault-clause-cause : goal.returns-in-Err-Fault-clause-cause
returns-in-Err-Fault-clause-cause g c =
    let before = all_before _ _ _ _ _ _ _ _ _ _ _ _ c.in_ok-source.ensures.same c.in_ok-claims.ensures.same c.as_slice.ensures.value c.as_slice-2.ensures.value c.as_slice-3.ensures.value
    c.in_ok-source.ensures.held c.in_ok-claims.ensures.held c.in_ok-script_text.ensures.held in
    (c.as_slice.result.now, c.as_slice-2.result.now, c.as_slice-3.result.now, before.0, before.1, before.2, subst (IsUntestedFor c.as_slice.result.now c.as_slice-2.result.now c.as_slice-3.result.now c.args.options.now) c.in-Err-Fault.field-0-is c.in-Err-Fault.ensures.cause)

pub returns-in-Err-NoFailure-clause-cause : goal.returns-in-Err-NoFailure-clause-cause
returns-in-Err-NoFailure-clause-cause g c =
    let before = all_before _ _ _ _ _ _ _ _ _ _ _ _ c.in_ok-source.ensures.same c.in_ok-claims.ensures.same c.as_slice.ensures.value c.as_slice-2.ensures.value c.as_slice-3.ensures.value
    c.in_ok-source.ensures.held c.in_ok-claims.ensures.held c.in_ok-script_text.ensures.held in
    (c.as_slice.result.now, c.as_slice-2.result.now, c.as_slice-3.result.now, before.0, before.1, before.2, subst (IsUntestedFor c.as_slice.result.now c.as_slice-2.result.now c.as_slice-3.result.now c.args.options.now) c.in-Err-NoFailure.field-0-is c.in-Err-NoFailure.ensures.cause)

-- a failure isn't the engine's
pub returns-in-Err-Fault-Test-clause-sound : goal.returns-in-Err-Fault-Test-clause-sound
returns-in-Err-Fault-Test-clause-sound g c = λ within. of_test_text _

pub returns-in-Err-Fault-clause-sound : goal.returns-in-Err-Fault-clause-sound
returns-in-Err-Fault-clause-sound g c = of_test _ _ _ c.args.options.now _ _ c.in-Err-Fault.field-0-is c.in-Err-Fault.ensures.cause
