-- The script of a way.
use Rattle.std.proofs.Common.{subst}
use Rattle.orc_tally.specs.Table.{way_of}
use Rattle.orc_run.specs.Whole.{IsScriptAt}
use Rattle.orc_run.proofs.Testing.{script_there, stands_there}
use Rattle.orc_run.proofs.Untold.{among}
use Rattle.orc_run.proofs.scripts.script_at.Goals as goal

pub returns-in-Some-get-clause-script : goal.returns-in-Some-get-clause-script
returns-in-Some-get-clause-script c =
    let case = stands_there _ _ _ c.in-Some.ensures.lookup.3.0 c.in-Some.ensures.lookup.1 in
    let script = stands_there _ _ _ c.in-Some-get.ensures.lookup.3.0 c.in-Some-get.ensures.lookup.1 in
    let there = script_there c.args.cases.now c.case.result c.way.result c.in-Some.case.now _ c.in-Some-get.script.now _ case c.deref.ensures.value script c.as_slice.ensures.value in
    subst (λ n. IsScriptAt c.args.cases.now n (way_of c.args.found) c.as_slice.result.now) c.case.ensures (subst (λ n. IsScriptAt c.args.cases.now c.case.result n c.as_slice.result.now) c.way.ensures there)

pub returns-in-Some-get-clause-among : goal.returns-in-Some-get-clause-among
returns-in-Some-get-clause-among c =
    let case = stands_there _ _ _ c.in-Some.ensures.lookup.3.0 c.in-Some.ensures.lookup.1 in
    let script = stands_there _ _ _ c.in-Some-get.ensures.lookup.3.0 c.in-Some-get.ensures.lookup.1 in
    among c.args.cases.now c.case.result c.way.result c.as_slice.result.now (script_there c.args.cases.now c.case.result c.way.result c.in-Some.case.now _ c.in-Some-get.script.now _ case c.deref.ensures.value script c.as_slice.ensures.value)
