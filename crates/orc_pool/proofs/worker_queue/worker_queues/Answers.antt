use Rattle.std.proofs.Common.{◌≡◌, ◌≤◌, ◌<◌, ◌+◌, [], ℕ, true, Some, slice_get, length, map, take, replicate, arith, sym, ap, ◌∙◌}
use Rattle.orc_pool.specs.History.{view_of}
use Rattle.orc_pool.specs.Words.{names, free, own_name, own_view, pushed, slots, theft_name}
use Rattle.orc_pool.proofs.Lanes.{each_more, map_more, replicate_more, taken_more, get_set_other}
use Rattle.orc_pool.proofs.worker_queue.worker_queues.Goals as goal

pub loop-at-preserved : goal.loop-at-preserved
loop-at-preserved g c =
    let before = c.loop-at.queues in
    let after = c.own.new.self in
    let at = c.loop-at.at in
    let kept = c.loop-at.invariant in
    let worker_queues = c.loop-at.worker_queues.items in
    let more = c.in_ok-push.ensures.items in
    let same : names after ≡ names before = c.in-Some.ensures.same in
    let took = c.in-Some.ensures.own in
    let still : (k : ℕ) → at + 1 ≤ k → k < c.args.count → slice_get (free after) k ≡ Some true =
    λ k le lt. ap (λ l. slice_get l k) took.1 ∙ get_set_other (free before) at k _ (omega (arith, le)) ∙ kept.1 k (omega (arith, le)) lt in (
      ap length same ∙ kept.0,
      still,
      taken_more (λ h. own_name h.own) worker_queues c.push.new.self.items _ more (names before) at kept.2 took.2 ∙ ap (take (at + 1)) (sym same),
      replicate_more (λ h. own_view h.own) worker_queues c.push.new.self.items _ more at (view_of true [] []) kept.3 took.3,
      replicate_more (λ h. map theft_name h.thefts.items) worker_queues c.push.new.self.items _ more at (names before) kept.4 c.in_ok-thefts.ensures ∙ ap (replicate (at + 1)) (sym same),
      replicate_more (λ h. pushed h.own) worker_queues c.push.new.self.items _ more at 0 kept.5 c.in-Some.ensures.room.1,
      each_more (λ n. 64 ≤ n) (map (λ h. slots h.own) worker_queues) (map (λ h. slots h.own) c.push.new.self.items) _ (map_more (λ h. slots h.own) worker_queues c.push.new.self.items _ more) kept.6 c.in-Some.ensures.room.0,
    )
