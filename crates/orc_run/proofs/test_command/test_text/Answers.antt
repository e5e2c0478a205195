-- The test that the text says was held.
use Rattle.std.proofs.Common.{◌∙◌, ap, length, subst, sym}
use Rattle.std.proofs.lemmas.Result.{err_from_is_err_and}
use Rattle.orc_scheduler.specs.declared.fault.EngineFault.TheVariants as engine
use Rattle.orc_ways.specs.Drafting.{test_of}
use Rattle.orc_run.specs.Tested.{AreWays}
use Rattle.orc_run.specs.TestFaults.{IsKnown}
use Rattle.orc_run.specs.declared.faults.RunFault.TheVariants as fault
use Rattle.orc_run.specs.declared.test_command.Untested.TheVariants as untested
use Rattle.orc_run.proofs.Untold.{uncounted, unscripted}
use Rattle.orc_run.proofs.test_command.test_text.Goals as goal

pub returns-clause-tested : goal.returns-clause-tested
returns-clause-tested g c = c.in_ok-number.ensures.tested c.args.inputs.now.texts.now.test.now c.in_ok-others.others c.in_ok-known.known c.in_ok-others.ensures.says c.in_ok-known.ensures.says c.in-Ok.ensures
    (subst (AreWays (test_of c.in_ok-known.known) 0) (sym c.as_slice-ways.ensures.value) c.in_ok-counted.ensures.ways.0) (ap length c.as_slice-ways.ensures.value ∙ c.in_ok-counted.ensures.ways.1)

-- why it wasn't
pub returns-in_err-counted-clause-cause : goal.returns-in_err-counted-clause-cause
returns-in_err-counted-clause-cause g c =
    let (s, ast, spells) = c.in_default.ensures.found in
    let known : IsKnown c.args.inputs.now.texts.now.source.now c.args.inputs.now.texts.now.test.now c.args.inputs.now.texts.now.script.now (test_of c.in_ok-known.known) = record { spells = (s, (spells, c.in_default.ensures.shallow)); others = c.in_ok-others.others; says = c.in_ok-others.ensures.says; reads = c.in_ok-known.ensures.says } in
    let p = err_from_is_err_and c.from_residual-in_err-counted.result c.from_residual-in_err-counted.ensures.1 in
    rw (p.1, p.2) (uncounted c.args.inputs.now.texts.now.source.now c.args.inputs.now.texts.now.test.now c.args.inputs.now.texts.now.script.now c.args.inputs.now.options.now c.in_ok-known.known known c.in_err-counted.field-0.0 c.in_err-counted.ensures.cause)

pub returns-in_default-add_end-clause-cause : goal.returns-in_default-add_end-clause-cause
returns-in_default-add_end-clause-cause g c =
    let (s, ast, spells) = c.in_default.ensures.found in
    let known : IsKnown c.args.inputs.now.texts.now.source.now c.args.inputs.now.texts.now.test.now c.args.inputs.now.texts.now.script.now (test_of c.in_ok-known.known) = record { spells = (s, (spells, c.in_default.ensures.shallow)); others = c.in_ok-others.others; says = c.in_ok-others.ensures.says; reads = c.in_ok-known.ensures.says } in
    unscripted c.args.inputs.now.texts.now.source.now c.args.inputs.now.texts.now.test.now c.args.inputs.now.texts.now.script.now c.args.inputs.now.options.now c.in_ok-known.known known c.in_ok-counted.counted.items c.in_ok-counted.ensures.ways.0 c.in_ok-counted.ensures.ways.1 (untested.Fault (fault.Engine engine.Memory)) tt

pub returns-in_err-number-clause-cause : goal.returns-in_err-number-clause-cause
returns-in_err-number-clause-cause g c =
    let (s, ast, spells) = c.in_default.ensures.found in
    let p = err_from_is_err_and c.from_residual-in_err-number.result c.from_residual-in_err-number.ensures.1 in
    rw (p.1, p.2) (c.in_err-number.ensures.cause c.args.inputs.now.texts.now.test.now c.in_ok-others.others s c.in_ok-known.known (spells, c.in_default.ensures.shallow) c.in_ok-others.ensures.says c.in_ok-known.ensures.says c.in-Ok.ensures
    (subst (AreWays (test_of c.in_ok-known.known) 0) (sym c.as_slice-ways.ensures.value) c.in_ok-counted.ensures.ways.0) (ap length c.as_slice-ways.ensures.value ∙ c.in_ok-counted.ensures.ways.1))
