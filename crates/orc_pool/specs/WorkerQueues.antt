-- What a clause says of a worker's queue and its rights to steal.
use Rattle.std.specs.Prelude.{◌≡◌, ◌≤◌, ◌⊎◌, ℕ, List, [], ◌∷◌, Some, length, map, replicate, slice_get, slice_set, true}
use Rattle.orc_pool.specs.declared.history.View.{View}
use Rattle.orc_pool.specs.declared.worker_queue.WorkerQueue.{WorkerQueue}
use Rattle.orc_pool.specs.History.{view_of, IsPop, IsTheft, WasEmpty}
use Rattle.orc_pool.specs.Words.{Name, own_name, own_view, pushed, slots, theft_name, theft_view}

module _ {T : Type 0} where
  -- what the worker knows of each queue as a thief
  abbrev pub stolen_views : WorkerQueue T → List (View T)
  stolen_views worker_queue = map theft_view worker_queue.thefts.items

  -- the task stood first in one of the queues
  abbrev pub IsStolen : WorkerQueue T → T → WorkerQueue T → Type 0
  IsStolen before task after = (from : ℕ) × (v w : View T) × (slice_get (stolen_views before) from ≡ Some v) × IsTheft v (task ∷ []) w × (stolen_views after ≡ slice_set (stolen_views before) from w)

  -- the task stood last in the worker's own queue, or first in another one
  abbrev pub IsTaken : WorkerQueue T → T → WorkerQueue T → Type 0
  IsTaken before task after =
      (IsPop (own_view before.own) (task ∷ []) (own_view after.own) × (stolen_views after ≡ stolen_views before))
      ⊎ (WasEmpty (own_view before.own) × (own_view after.own ≡ own_view before.own) × IsStolen before task after)

  -- each worker has a queue of its own, which is empty and has room for 64 tasks, and may steal from all
  abbrev pub AreDealt : ℕ → List (WorkerQueue T) → Type 0
  AreDealt count worker_queues = (queues : List Name) × (length queues ≡ count) × (map (λ h. own_name h.own) worker_queues ≡ queues)
      × (map (λ h. own_view h.own) worker_queues ≡ replicate count (view_of true [] []))
      × (map (λ h. map theft_name h.thefts.items) worker_queues ≡ replicate count queues)
      × (map (λ h. pushed h.own) worker_queues ≡ replicate count 0)
      × ((at n : ℕ) → slice_get (map (λ h. slots h.own) worker_queues) at ≡ Some n → 64 ≤ n)
