use Rattle.std.proofs.Common.{arith}
use Rattle.orc_calls.proofs.BareCalls.{resized}
use Rattle.orc_calls.proofs.bare.BareCounts.reach.Goals as goal

pub returns-clause-same : goal.returns-clause-same
returns-clause-same c = rw (← c.self.view_is) (λ i. resized _ _ _ c.in-Some.len _ c.resize.ensures.items (omega (arith, c.if-len.false, c.len.ensures)) i)
