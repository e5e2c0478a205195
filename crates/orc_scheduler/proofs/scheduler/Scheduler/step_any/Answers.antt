use Rattle.std.proofs.Common.{subst}
use Rattle.orc_scheduler.specs.Stops.{Goes}
use Rattle.orc_scheduler.proofs.Further.{bound-further, goes-on}
use Rattle.orc_scheduler.proofs.scheduler.Scheduler.step_any.Goals as goal

pub returns-in_ok-close-in-Ok-Bound-clause-moved : goal.returns-in_ok-close-in-Ok-Bound-clause-moved
returns-in_ok-close-in-Ok-Bound-clause-moved g c =
    let moved = rw c.in-Ok-Bound.field-0-is at c.in-Ok-Bound.ensures.done in
    let s' = c.advance.new.self.ledger in
    let still : Goes s' c.close-in-Ok-Bound.new.self.ledger = subst (λ z. Goes z c.close-in-Ok-Bound.new.self.ledger) c.wake.ensures.same c.in_ok-close-in-Ok-Bound.ensures.goes in
    goes-on c.args.self.now.ledger s' c.close-in-Ok-Bound.new.self.ledger (bound-further g.P.Run.listing c.args.self.now.ledger c.args.slot c.args.token s' c.advance.new.self.cancelled.items _ _ moved) still
