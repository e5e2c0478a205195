-- What is left tells the rest, and is why not all is told.
use Rattle.std.proofs.Common.{◌++◌, List, length}
use Rattle.std.specs.List.{AllZip}
use Rattle.orc_tally.specs.declared.table.CaseReport.{CaseReport}
use Rattle.orc_run.specs.Tested.{IsTried}
use Rattle.orc_run.specs.TestFaults.{AreUntried, all_texts}
use Rattle.orc_run.specs.declared.test_command.Untested.{Untested}
use Rattle.orc_run.proofs.test_command.Tester.try_cases.Given as goal

abbrev pub decreases-loop-rest : goal.decreases-loop-rest
decreases-loop-rest g l = length l.rest

abbrev pub invariant-loop-rest : goal.invariant-loop-rest
invariant-loop-rest g l = ((ys : List CaseReport) → AllZip (IsTried l.fn.self.trials.now) l.rest ys → AllZip (IsTried l.fn.self.trials.now) l.fn.cases (l.reports.items ++ ys))
    × ((f : Untested) → AreUntried l.fn.self.trials.now.source.now l.fn.self.options.now.workers l.fn.self.trials.now.limit (all_texts l.rest) f → AreUntried l.fn.self.trials.now.source.now l.fn.self.options.now.workers l.fn.self.trials.now.limit (all_texts l.fn.cases) f)
