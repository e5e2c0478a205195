use Rattle.std.proofs.Common.{◌≡◌, ◌<◌, ◌%◌, ◌+◌, ℕ, inr, slice_get, slice_set, length, sym, ap, arith, ◌∙◌}
use Rattle.std.proofs.lemmas.List.{map-set, length-set}
use Rattle.std.proofs.Math.Nat.{mod-lt}
use Rattle.orc_pool.specs.Words.{theft_view}
use Rattle.orc_pool.proofs.Lanes.{map_at, map_set_same, get_at}
use Rattle.orc_pool.proofs.worker_queue.WorkerQueue.next.Goals as goal

-- the queue that is asked is one of them
is_one : (turn step count n : ℕ) → step < count → count ≡ n → turn % count < n
is_one turn step count n some are =
    let below : turn % count < count = mod-lt turn {m = count} (omega (arith, some)) in
    omega (arith, below, are)

pub returns-in-Some-steal-clause-rule : goal.returns-in-Some-steal-clause-rule
returns-in-Some-steal-clause-rule g c =
    let kept = c.loop-step.invariant in
    let thefts = c.loop-step.self.thefts.items in
    let turn = c.loop-step.self.at % c.len-count.result + c.loop-step.step in
    let from = turn % c.len-count.result in
    let there = map_at theft_view thefts from c.index_mut.result.now (get_at thefts from c.index_mut.result.now (is_one turn c.loop-step.step c.len-count.result (length thefts) c.loop-step-test.true kept.3) c.index_mut.ensures.value) in
    inr (kept.0, kept.1, (from, theft_view c.index_mut.result.now, theft_view c.steal.new.self, ap (λ vs. slice_get vs from) (sym kept.2) ∙ there, c.in-Some-steal.ensures, map-set theft_view thefts from c.steal.new.self ∙ ap (λ vs. slice_set vs from (theft_view c.steal.new.self)) kept.2))

pub loop-step-preserved : goal.loop-step-preserved
loop-step-preserved g c =
    let kept = c.loop-step.invariant in
    let thefts = c.loop-step.self.thefts.items in
    let turn = c.loop-step.self.at % c.len-count.result + c.loop-step.step in
    let there = get_at thefts (turn % c.len-count.result) c.index_mut.result.now (is_one turn c.loop-step.step c.len-count.result (length thefts) c.loop-step-test.true kept.3) c.index_mut.ensures.value in
    (kept.0, kept.1, map_set_same theft_view thefts (turn % c.len-count.result) c.index_mut.result.now c.steal.new.self there c.in_default-steal.ensures ∙ kept.2, kept.3 ∙ sym (length-set thefts (turn % c.len-count.result) c.steal.new.self), kept.4, kept.5)
