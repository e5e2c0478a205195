use Rattle.std.proofs.Common.{◌≡◌, true, replicate, map, is_some}
use Rattle.orc_pool.proofs.queues.Queues.new.Given as goal

abbrev pub invariant-loop : goal.invariant-loop
invariant-loop g l = map (λ x. is_some x.own) l.lanes.items ≡ replicate l.counter true
