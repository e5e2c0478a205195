-- What a clause says of an owner's end, of a theft and of the queues.
use Rattle.std.specs.Prelude.{ℕ, List, Bool, map, is_some}
use Rattle.std.specs.declared.alloc.Global.{Global}
use Rattle.atomic_blocks.specs.Lent.{RowsId}
use Rattle.crossbeam_deque.specs.Handles.{view, worker_view, worker_deque, worker_capacity, worker_index, stealer_deque}
use Rattle.orc_pool.specs.declared.history.View.{View}
use Rattle.orc_pool.specs.declared.own.Own.{Own}
use Rattle.orc_pool.specs.declared.theft.Theft.{Theft}
use Rattle.orc_pool.specs.declared.queues.Queues.{Queues}

-- which queue it is
abbrev pub Name : Type 0
Name = RowsId × Global

module _ {T : Type 0} where
  -- what the owner knows of its queue's history
  abbrev pub own_view : Own T → View T
  own_view own = worker_view own.worker

  -- what the thief knows of the queue's history
  abbrev pub theft_view : Theft T → View T
  theft_view theft = view theft.pass

  -- the slots of the queue, which grow as it needs more
  abbrev pub slots : Own T → ℕ
  slots own = worker_capacity own.worker

  -- how many tasks were pushed and not popped again, those among them that were stolen
  abbrev pub pushed : Own T → ℕ
  pushed own = worker_index own.worker

  abbrev pub own_name : Own T → Name
  own_name own = worker_deque own.worker

  abbrev pub theft_name : Theft T → Name
  theft_name theft = stealer_deque theft.stealer

  -- the queues, in order
  abbrev pub names : Queues T → List Name
  names queues = map (λ l. stealer_deque l.stealing_end) queues.lanes.items

  -- which queues have an end that no worker took yet
  abbrev pub free : Queues T → List Bool
  free queues = map (λ l. is_some l.own) queues.lanes.items
