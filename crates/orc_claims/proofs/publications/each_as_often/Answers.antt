use Rattle.std.proofs.Common.{sym}
use Rattle.orc_claims.proofs.Often.{goes_on, stops}
use Rattle.orc_claims.proofs.publications.each_as_often.Goals as goal

pub loop-at-preserved : goal.loop-at-preserved
loop-at-preserved c = goes_on c.args.first.now c.args.values.now c.args.others.now c.loop-at.at _ c.loop-at-test.true c.loop-at.invariant (sym c.if-not-is_as_often.ensures)

pub returns-then-not-is_as_often : goal.returns-then-not-is_as_often
returns-then-not-is_as_often c = sym (stops c.args.first.now c.args.values.now c.args.others.now c.loop-at.at _ c.loop-at-test.true c.loop-at.invariant (sym c.if-not-is_as_often.ensures))
