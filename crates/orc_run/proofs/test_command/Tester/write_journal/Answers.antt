-- The journal of a failure was written.
use Rattle.std.proofs.Common.{◌∙◌, Err, Ok, Some, ap, subst, sym}
use Rattle.std.specs.Prelude.{IfErr, Result}
use Rattle.orc_cli.specs.declared.job.Shown.TheVariants.{Journal}
use Rattle.orc_run.specs.FailingRuns.{HasShownFailure}
use Rattle.orc_run.specs.TestFaults.{all_texts, AreUnwritten, IsUnfound, IsUnshown}
use Rattle.orc_run.specs.declared.test_command.Untested.{Untested}
use Rattle.orc_output.proofs.Parted.{on_ok}
use Rattle.orc_run.proofs.Untold.{of_script, unfound_unwritten, unshown_unwritten}
use Rattle.orc_run.proofs.test_command.Tester.write_journal.Goals as goal

-- of the run in the order that showed it,
pub returns-in-Trial-clause-ok : goal.returns-in-Trial-clause-ok
returns-in-Trial-clause-ok g c =
    let t = c.args.self.now.trials.now in
    on_ok c.write_in_order.result (λ wrote. (
      c.in-Some.found,
      c.in_ok-script.script.now,
      sym c.failure_at.ensures ∙ c.in-Some.is,
      c.in_ok-script.ensures.script,
      subst (λ claim. HasShownFailure t c.in_ok-script.script.now claim (g.W.Write.contents c.args.out.now) (g.W.Write.contents c.write_in_order.new.out)) c.failing_claim-claim.ensures wrote,
    ))
    c.write_in_order.ensures.shown

-- or of one that was found
pub returns-in-Schedule-clause-ok : goal.returns-in-Schedule-clause-ok
returns-in-Schedule-clause-ok g c =
    let t = c.args.self.now.trials.now in
    on_ok c.write_found.result (λ wrote. (
      c.in-Some.found,
      c.in_ok-script.script.now,
      sym c.failure_at.ensures ∙ c.in-Some.is,
      c.in_ok-script.ensures.script,
      subst (λ claim. HasShownFailure t c.in_ok-script.script.now claim (g.W.Write.contents c.args.out.now) (g.W.Write.contents c.write_found.new.out)) c.failing_claim-claim.ensures wrote,
    ))
    c.write_found.ensures.ok

-- or it wasn't,
pub returns-in-Trial-clause-cause : goal.returns-in-Trial-clause-cause
returns-in-Trial-clause-cause g c = go c.write_in_order.result c.write_in_order.ensures.cause
  where
    go : (r : Result Unit Untested) → IfErr r (IsUnshown c.args.self.now.trials.now.source.now 1 c.args.self.now.trials.now.limit c.in_ok-script.script.now)
        → IfErr r (AreUnwritten c.args.self.now.trials.now.source.now c.args.self.now.trials.now.limit (all_texts c.args.cases.now) (Journal c.args.number) c.args.rows.now)
    go (Ok u) h = h
    go (Err f) h = unshown_unwritten c.args.self.now.trials.now.source.now c.args.self.now.trials.now.limit (all_texts c.args.cases.now) (Journal c.args.number) c.args.rows.now f (of_script c.args.self.now.trials.now.source.now c.args.self.now.trials.now.limit (all_texts c.args.cases.now) c.in_ok-script.script.now f c.in_ok-script.ensures.among h)

-- or not found
pub returns-in-Schedule-clause-cause : goal.returns-in-Schedule-clause-cause
returns-in-Schedule-clause-cause g c = go c.write_found.result c.write_found.ensures.cause
  where
    go : (r : Result Unit Untested) → IfErr r (IsUnfound c.args.self.now.trials.now.source.now c.args.self.now.trials.now.limit c.in_ok-script.script.now c.args.number)
        → IfErr r (AreUnwritten c.args.self.now.trials.now.source.now c.args.self.now.trials.now.limit (all_texts c.args.cases.now) (Journal c.args.number) c.args.rows.now)
    go (Ok u) h = h
    go (Err f) h = unfound_unwritten c.args.self.now.trials.now.source.now c.args.self.now.trials.now.limit (all_texts c.args.cases.now) c.in_ok-script.script.now c.args.number c.args.rows.now _ f c.in_ok-script.ensures.among (sym c.failure_at.ensures ∙ (c.in-Some.is ∙ ap Some c.in-Schedule.is)) h
