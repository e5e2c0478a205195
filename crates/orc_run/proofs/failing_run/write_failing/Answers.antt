-- The journal was written whole, or a prefix of it.
use Rattle.orc_run.proofs.FailingRuns.{shown_failure}
use Rattle.orc_run.proofs.failing_run.write_failing.Goals as goal

pub returns-in-Ok-write_journal-clause-shown : goal.returns-in-Ok-write_journal-clause-shown
returns-in-Ok-write_journal-clause-shown g c = λ shown.
    shown_failure c.args.trials.now c.args.way.now c.args.script.now c.args.played.now c.in-Some.journal c.args.claim _ _ c.requires.way c.requires.script c.requires.played c.in-Some.is (c.in-Ok.ensures c.if-not-fails.false) c.in-Ok-write_journal.ensures.each c.in-Ok-write_journal.ensures.ok

pub returns-in-Err-clause-err : goal.returns-in-Err-clause-err
returns-in-Err-clause-err g c = (_, c.in-Err.ensures.err)
