use Rattle.std.proofs.Common.{rules, ap, Some, ◌∙◌, sym, ◌≡◌}
use Rattle.crossbeam_deque.specs.Handles.{stealer_deque}
use Rattle.orc_pool.proofs.Lanes.{map_at, get_at}
use Rattle.orc_pool.proofs.queues.Queues.theft.Goals as goal

pub returns : goal.returns
returns g c =
    let lanes = c.args.self.now.lanes.items in
    let lane = c.in-Some.lane.now in
    let b = c.in-Some.ensures.lookup in
    let same : stealer_deque c.in_ok-stealer.stealer ≡ stealer_deque lane.stealing_end = search rules in
    record { theft = (map_at (λ z. stealer_deque z.stealing_end) lanes c.args.at lane (get_at lanes c.args.at lane (search rules) (search rules)) ∙ ap Some (sym same) ∙ ap Some (sym c.by.ensures.0), c.by.ensures.1) }
