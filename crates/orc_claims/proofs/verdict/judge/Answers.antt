use Rattle.std.proofs.Common.{arith}
use Rattle.orc_claims.proofs.Saying.{says_what_holds}
use Rattle.orc_claims.proofs.verdict.judge.Goals as goal

pub returns-clause-holds : goal.returns-clause-holds
returns-clause-holds c = says_what_holds c.args.claims.now c.args.happenings.now c.args.end c.args.now _ _ (omega (arith, c.loop-claim-test.false)) c.loop-claim.invariant
