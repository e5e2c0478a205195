use Rattle.std.proofs.Common.{rules, refl}
use Rattle.crossbeam_deque.specs.Handles.{stealer_deque}
use Rattle.orc_pool.proofs.Lanes.{own_taken, map_set_same, get_at}
use Rattle.orc_pool.proofs.queues.Queues.own.Goals as goal

pub returns-clause-same : goal.returns-clause-same
returns-clause-same g c =
    let lanes = c.args.self.now.lanes.items in
    let lane = c.index_mut-lane.result.now in
    map_set_same (λ z. stealer_deque z.stealing_end) lanes c.args.at lane _ (get_at lanes c.args.at lane (search rules) c.index_mut-lane.ensures.value) refl

pub returns-clause-own : goal.returns-clause-own
returns-clause-own g c =
    let lanes = c.args.self.now.lanes.items in
    let lane = c.index_mut-lane.result.now in
    own_taken lanes c.args.at lane _ c.take.result (get_at lanes c.args.at lane (search rules) c.index_mut-lane.ensures.value) c.take.ensures.value c.take.ensures.after
