use Rattle.orc_run.proofs.Showing.{journal_of}
use Rattle.orc_run.proofs.shown.write_shown.Goals as goal

-- a prefix of the journal was written
pub returns-in-Err-clause-err : goal.returns-in-Err-clause-err
returns-in-Err-clause-err g c limit played =
    let l = c.args.loaded.now.program in
    let t = c.args.loaded.now.answers in
    (_, journal_of l t limit c.args.played.now c.in-Some.journal c.args.outcome.end c.args.outcome.values.now played c.in-Some.is (c.has.ensures.end c.if-not-has.false) (c.has.ensures.values c.if-not-has.false), c.in-Err.ensures.err)
