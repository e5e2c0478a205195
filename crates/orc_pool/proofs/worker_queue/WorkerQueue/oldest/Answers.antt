use Rattle.std.proofs.Common.{◌<◌, length, arith}
use Rattle.std.proofs.lemmas.List.{map-set}
use Rattle.orc_pool.specs.Words.{theft_view}
use Rattle.orc_pool.proofs.Lanes.{map_at, map_set_same, get_at}
use Rattle.orc_pool.proofs.worker_queue.WorkerQueue.oldest.Goals as goal

pub returns-in-Some-clause-theft : goal.returns-in-Some-clause-theft
returns-in-Some-clause-theft g c =
    let thefts = c.args.self.now.thefts.items in
    let at = c.args.self.now.at in
    let below : at < length thefts = omega (arith, c.if-self-len.false, c.len.ensures) in
    let there = map_at theft_view thefts at c.index_mut.result.now (get_at thefts at c.index_mut.result.now below c.index_mut.ensures.value) in
    (at, theft_view c.index_mut.result.now, theft_view c.steal.new.self, there, c.in-Some.ensures, map-set theft_view thefts at c.steal.new.self)

pub returns-clause-theft : goal.returns-clause-theft
returns-clause-theft g c =
    let thefts = c.args.self.now.thefts.items in
    let at = c.args.self.now.at in
    let below : at < length thefts = omega (arith, c.if-self-len.false, c.len.ensures) in
    map_set_same theft_view thefts at c.index_mut.result.now c.steal.new.self (get_at thefts at c.index_mut.result.now below c.index_mut.ensures.value) c.in_default.ensures
