use Rattle.std.proofs.lemmas.Result.{err_from_is_err_and}
use Rattle.orc_load.specs.declared.fault.LoadFault.TheVariants as load
use Rattle.orc_run.proofs.LoadFaults.{beyond, undrawable_beyond, undrawable_left}
use Rattle.orc_run.proofs.picture.draw_text.Goals as goal

-- there is no picture, and nothing was written
pub returns-in_err-picture-clause-undrawn : goal.returns-in_err-picture-clause-undrawn
returns-in_err-picture-clause-undrawn g c =
    let judged = c.in-Ok.judged in
    let (y, is, from) = err_from_is_err_and c.from_residual.result c.from_residual.ensures.1 in
    rw is (undrawable_left c.args.source.now c.args.script.now c.args.journal.now _ judged.journal judged.state (judged.answers, judged.time, c.in-Ok.ensures.judged) y (rw from c.in_err-picture.ensures))

-- ---- the journal of a run

pub returns-in-Err-parse-clause-beyond : goal.returns-in-Err-parse-clause-beyond
returns-in-Err-parse-clause-beyond g c = λ s of. beyond c.args.source.now c.args.script.now c.args.journal.now s (load.Syntax c.in-Err-parse.fault) of c.in-Err-parse.ensures.fault

pub returns-in_err-picture-clause-beyond : goal.returns-in_err-picture-clause-beyond
returns-in_err-picture-clause-beyond g c = λ s of.
    let (y, is, from) = err_from_is_err_and c.from_residual.result c.from_residual.ensures.1 in
    rw is (undrawable_beyond y (rw from c.in_err-picture.ensures))
