use Rattle.std.proofs.Common.{[], refl}
use Rattle.orc_scheduler.proofs.Further.{goes-on, halted-further, passes-further, pends-further, waits-so}
use Rattle.orc_scheduler.proofs.Stopping.{fork-refused}
use Rattle.orc_scheduler.proofs.Words.{calls-so}
use Rattle.orc_scheduler.proofs.scheduler.Scheduler.step_at.Goals as goal

pub returns-in-Err-fork-clause-stops : goal.returns-in-Err-fork-clause-stops
returns-in-Err-fork-clause-stops g c =
    let a = c.args in
    fork-refused g.P.Run.listing a.self.now.ledger c.fork.new.self a.token a.scope c.in-Par.left c.in-Par.right c.in-Err-fork.fault (rw c.in-Par.is at c.requires.at) c.in-Err-fork.ensures.refused c.full_is_crowded-in-Err-fork.ensures c.in-Err-fork.ensures.why

pub returns-in_ok-close-in-Halted-clause-moved : goal.returns-in_ok-close-in-Halted-clause-moved
returns-in_ok-close-in-Halted-clause-moved g c =
    let a = c.args in
    let s' = c.feed_through.new.self in
    let clears = rw c.in-Halted.is at c.in-Ok-feed_through.ensures.done [] in
    (goes-on a.self.now.ledger s' c.close.new.self.ledger (halted-further g.P.Run.listing g.P.Run.sites a.self.now.ledger a.slot a.token _ s' clears) c.in_ok-close-in-Halted.ensures.goes, λ e. cc e)

pub returns-in-Pends-clause-moved : goal.returns-in-Pends-clause-moved
returns-in-Pends-clause-moved g c =
    let a = c.args in
    let s' = c.feed_through.new.self in
    let enters = rw c.in-Pends.is at c.in-Ok-feed_through.ensures.done [] in
    (pends-further g.P.Run.listing g.P.Run.sites a.self.now.ledger a.slot a.token _ s' enters, λ e. cc e)

pub returns-in-Calls-clause-none : goal.returns-in-Calls-clause-none
returns-in-Calls-clause-none g c =
    let a = c.args in
    let calls = rw c.in-Calls.is at c.in-Ok-feed_through.ensures.done [] in
    ((calls-so g.P.Run.listing a.self.now.ledger a.slot a.token c.feed_through.new.self [] calls).1, refl)

pub returns-in-Waits-clause-none : goal.returns-in-Waits-clause-none
returns-in-Waits-clause-none g c =
    let a = c.args in
    let waits = rw c.in-Waits.is at c.in-Ok-feed_through.ensures.done [] in
    (waits-so g.P.Run.listing a.self.now.ledger a.slot a.token c.feed_through.new.self [] waits, refl)

pub returns-in_default-passed : goal.returns-in_default-passed
returns-in_default-passed g c =
    let a = c.args in
    record {
      moved = (passes-further g.P.Run.listing g.P.Run.sites a.self.now.ledger a.slot a.token c.in-Ok-feed_through.passed [] c.feed_through.new.self c.in_default-passed.not-Calls c.in_default-passed.not-Waits (c.in-Ok-feed_through.ensures.done []), λ e. cc e);
      none = tt;
      stops = tt;
    }
