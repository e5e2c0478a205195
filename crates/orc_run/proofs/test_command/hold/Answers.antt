-- What was told of the test.
use Rattle.std.proofs.Common.{refl, subst, sym}
use Rattle.std.specs.List.{AllZip}
use Rattle.std.proofs.lemmas.Result.{err_from_is_err_and}
use Rattle.orc_ways.specs.Drafting.{test_of}
use Rattle.orc_run.specs.Called.{named_of}
use Rattle.orc_run.specs.Tested.{AreScripts, HasFailing}
use Rattle.orc_run.specs.TestFaults.{IsKnown}
use Rattle.orc_run.proofs.Testing.{report_of}
use Rattle.orc_run.proofs.Untold.{unscripted, untold}
use Rattle.orc_run.proofs.test_command.hold.Goals as goal

pub returns-clause-tested : goal.returns-clause-tested
returns-clause-tested g c = λ text others read says reads judged are every.
    subst (λ e. HasFailing c.args.inputs.now.texts.now.source.now text c.args.inputs.now.texts.now.script.now (named_of c.args.inputs.now.names.now) c.args.inputs.now.options.now e (g.W.Write.contents c.args.out.now) (g.W.Write.contents c.try_and_write.new.out) c.in_ok-number.number) c.is_asked-explains.ensures.asked
    (report_of c.args.inputs.now.texts.now.source.now c.args.inputs.now.texts.now.script.now text (named_of c.args.inputs.now.names.now) c.args.inputs.now.options.now c.is_asked-explains.result (record { source = c.args.inputs.now.texts.now.source; sites = c.as_slice-sites.result; claims = c.as_slice-claims.result; orders = c.args.inputs.now.options.now.orders; limit = c.args.inputs.now.options.now.limit }) read c.args.test.now c.as_slice-scripts.result.now others (g.W.Write.contents c.args.out.now) (g.W.Write.contents c.try_and_write.new.out) c.in_ok-number.number c.args.ways.now are every (subst (AllZip (AreScripts c.args.inputs.now.options.now.ways c.args.inputs.now.texts.now.script.now) c.args.ways.now) (sym c.as_slice-scripts.ensures.value) c.in_ok-cases.ensures.scripts)
    judged refl c.as_slice-sites.ensures.value c.as_slice-claims.ensures.value refl refl says reads c.in_ok-number.ensures.tested)

-- why it wasn't
pub returns-in_err-cases-clause-cause : goal.returns-in_err-cases-clause-cause
returns-in_err-cases-clause-cause g c = λ text others s read spells says reads judged are every.
    let known : IsKnown c.args.inputs.now.texts.now.source.now text c.args.inputs.now.texts.now.script.now (test_of read) = record { spells = (s, spells); others = others; says = says; reads = reads } in
    let p = err_from_is_err_and c.from_residual.result c.from_residual.ensures.1 in
    rw (p.1, p.2) (unscripted c.args.inputs.now.texts.now.source.now text c.args.inputs.now.texts.now.script.now c.args.inputs.now.options.now read known c.args.ways.now are every c.in_err-cases.field-0.0 c.in_err-cases.ensures.cause)

pub returns-in_err-number-clause-cause : goal.returns-in_err-number-clause-cause
returns-in_err-number-clause-cause g c = λ text others s read spells says reads judged are every.
    let known : IsKnown c.args.inputs.now.texts.now.source.now text c.args.inputs.now.texts.now.script.now (test_of read) = record { spells = (s, spells); others = others; says = says; reads = reads } in
    let p = err_from_is_err_and c.from_residual-in_err-number.result c.from_residual-in_err-number.ensures.1 in
    rw (p.1, p.2) (untold c.args.inputs.now.texts.now.source.now text c.args.inputs.now.texts.now.script.now c.args.inputs.now.options.now read known c.args.ways.now are every c.args.test.now judged
    (record { source = c.args.inputs.now.texts.now.source; sites = c.as_slice-sites.result; claims = c.as_slice-claims.result; orders = c.args.inputs.now.options.now.orders; limit = c.args.inputs.now.options.now.limit }) c.as_slice-scripts.result.now
    (subst (AllZip (AreScripts c.args.inputs.now.options.now.ways c.args.inputs.now.texts.now.script.now) c.args.ways.now) (sym c.as_slice-scripts.ensures.value) c.in_ok-cases.ensures.scripts)
    refl c.as_slice-sites.ensures.value c.as_slice-claims.ensures.value refl refl c.in_err-number.field-0.0 c.in_err-number.ensures.cause)
