-- The claim fails in the run where it did.
use Rattle.std.proofs.Common.{◌≡◌, Some, refl, rules}
use Rattle.orc_run.proofs.Detailing.{fails_at}
use Rattle.orc_run.proofs.test_command.Tester.fail_again.Goals as goal

pub returns-then-eq-clause-fails : goal.returns-then-eq-clause-fails
returns-then-eq-clause-fails g c =
    let some : c.in-Ok-Some.field-0 ≡ Some c.in-Ok-Some.verdict = cc in
    let same : c.in-Ok-Some.verdict ≡ c.args.shown.failure.verdict = search rules in
    fails_at c.args.self.now.trials.now c.args.script.now c.args.claim c.in-Ok-Some.field-0 c.in-Ok-Some.verdict c.args.shown.failure.verdict c.in_ok-run.run' _ _ _ c.in_ok-run.ensures.made c.as_slice.ensures c.state_at.ensures refl c.in-Ok-Some.ensures some same
