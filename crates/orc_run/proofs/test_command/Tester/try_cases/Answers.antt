-- What is told of each case.
use Rattle.std.proofs.Common.{◌≡◌, ◌++◌, ◌∷◌, [], rules}
use Rattle.orc_run.proofs.Testing.{all_tried}
use Rattle.orc_run.proofs.Untold.{next_tried}
use Rattle.orc_run.proofs.test_command.Tester.try_cases.Goals as goal

pub returns-in-empty-clause-tried : goal.returns-in-empty-clause-tried
returns-in-empty-clause-tried g c = all_tried c.args.self.now.trials.now _ _ _ c.in-empty.len_below c.loop-rest.invariant.0

pub loop-rest-preserved : goal.loop-rest-preserved
loop-rest-preserved g c =
    let report = c.in_ok-report-in-len1-up.report in
    let pushed : c.push.new.self.items ≡ c.loop-rest.reports.items ++ report ∷ [] = search rules in
    next_tried c.args.self.now.trials.now c.args.self.now.options.now.workers c.scripts-item.result c.loop-rest.rest.now c.args.cases.now c.loop-rest.reports.items c.push.new.self.items report c.in-len1-up.len_at_least c.scripts-item.is c.loop-rest.invariant c.in_ok-report-in-len1-up.ensures.tried pushed
