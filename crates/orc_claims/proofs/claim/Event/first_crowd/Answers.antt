use Rattle.std.proofs.Common.{arith}
use Rattle.orc_claims.specs.Claims.{is_uncrowded}
use Rattle.orc_claims.proofs.Crowds.{counted_on, uncrowded}
use Rattle.orc_claims.proofs.Placed.{goes_on}
use Rattle.orc_claims.proofs.claim.Event.first_crowd.Goals as goal

pub loop-at-preserved : goal.loop-at-preserved
loop-at-preserved c =
    let e = c.args.self.now in
    let hs = c.args.happenings.now in
    let at = c.loop-at.at in
    let h = c.index-happenings-at.result in
    let inv = c.loop-at.invariant in
    record {
      count = counted_on e hs at h _ _ c.loop-at-test.true c.index-happenings-at.is inv.count c.in_ok-out.ensures.count;
      most = omega (arith, c.in_ok-out.ensures.most, inv.most);
      good = goes_on (is_uncrowded e c.args.most) hs at h c.loop-at-test.true c.index-happenings-at.is inv.good (uncrowded e hs at h _ _ c.args.most inv.count c.in_ok-out.ensures.count c.if-out-most.false);
    }
