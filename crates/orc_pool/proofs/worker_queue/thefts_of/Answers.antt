use Rattle.std.proofs.Common.{◌≡◌, ◌≤◌, [], false, Some, MatchOption, slice_get, length, subst}
use Rattle.orc_pool.specs.History.{view_of}
use Rattle.orc_pool.specs.Words.{names, theft_name, theft_view}
use Rattle.orc_pool.proofs.Lanes.{taken_more}
use Rattle.orc_pool.proofs.worker_queue.thefts_of.Goals as goal

pub loop-from-preserved : goal.loop-from-preserved
loop-from-preserved g c =
    let all = names c.args.queues.now in
    let from = c.loop-from.from in
    let found = subst (λ o. MatchOption o (length all ≤ from) (λ theft. (slice_get all from ≡ Some (theft_name theft)) × (theft_view theft ≡ view_of false [] []))) c.in-Some.is c.in_ok-theft.ensures.theft in
    taken_more theft_name c.loop-from.thefts.items c.push.new.self.items c.in-Some.theft c.in_ok-push.ensures.items all from c.loop-from.invariant found.0
