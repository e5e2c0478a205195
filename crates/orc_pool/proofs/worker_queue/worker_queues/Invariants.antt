use Rattle.std.proofs.Common.{◌≡◌, ◌≤◌, ◌<◌, ℕ, true, [], length, map, take, replicate, Some, slice_get}
use Rattle.orc_pool.specs.History.{view_of}
use Rattle.orc_pool.specs.Words.{names, free, own_name, own_view, pushed, slots, theft_name}
use Rattle.orc_pool.proofs.worker_queue.worker_queues.Given as goal

-- the worker queues so far, and the queues whose ends are not taken
abbrev pub invariant-loop-at : goal.invariant-loop-at
invariant-loop-at g l =
    (length (names l.queues) ≡ l.count) × ((k : ℕ) → l.at ≤ k → k < l.count → slice_get (free l.queues) k ≡ Some true)
    × (map (λ h. own_name h.own) l.worker_queues.items ≡ take l.at (names l.queues)) × (map (λ h. own_view h.own) l.worker_queues.items ≡ replicate l.at (view_of true [] []))
    × (map (λ h. map theft_name h.thefts.items) l.worker_queues.items ≡ replicate l.at (names l.queues))
    × (map (λ h. pushed h.own) l.worker_queues.items ≡ replicate l.at 0)
    × ((at n : ℕ) → slice_get (map (λ h. slots h.own) l.worker_queues.items) at ≡ Some n → 64 ≤ n)
