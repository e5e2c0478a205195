use Rattle.std.proofs.Common.{◌≡◌, ◌≤◌, length}
use Rattle.orc_pool.specs.History.{WasEmpty}
use Rattle.orc_pool.specs.Words.{own_view, pushed, slots}
use Rattle.orc_pool.specs.WorkerQueues.{stolen_views}
use Rattle.orc_pool.proofs.worker_queue.WorkerQueue.next.Given as goal

-- nothing was stolen so far
abbrev pub invariant-loop-step : goal.invariant-loop-step
invariant-loop-step g l = WasEmpty (own_view l.fn.self.own) × (own_view l.self.own ≡ own_view l.fn.self.own) × (stolen_views l.self ≡ stolen_views l.fn.self) × (l.count ≡ length l.self.thefts.items)
    × (pushed l.self.own ≤ pushed l.fn.self.own) × (slots l.fn.self.own ≤ slots l.self.own)
