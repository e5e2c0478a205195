-- What is left tells the rest.
use Rattle.std.proofs.Common.{length}
use Rattle.orc_run.proofs.Detailing.{AreLeft}
use Rattle.orc_run.proofs.test_command.Tester.all_details.Given as goal

abbrev pub decreases-loop-rest : goal.decreases-loop-rest
decreases-loop-rest g l = length l.rest

abbrev pub invariant-loop-rest : goal.invariant-loop-rest
invariant-loop-rest g l = AreLeft l.fn.self.trials.now l.fn.self.explains l.fn.ways l.fn.cases l.fn.rows l.rest l.all.items
