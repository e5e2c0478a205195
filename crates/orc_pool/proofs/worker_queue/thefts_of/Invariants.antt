use Rattle.std.proofs.Common.{◌≡◌, map, take}
use Rattle.orc_pool.specs.Words.{names, theft_name}
use Rattle.orc_pool.proofs.worker_queue.thefts_of.Given as goal

-- the rights so far
abbrev pub invariant-loop-from : goal.invariant-loop-from
invariant-loop-from g l = map theft_name l.thefts.items ≡ take l.from (names l.queues)
