use Rattle.std.proofs.Common.{◌+◌, ◌∙◌, List, MatchResult, ap, subst, ℕ}
use Rattle.std.specs.Global.{Vec}
use Rattle.std.proofs.lemmas.List.{get_or_default}
use Rattle.std.proofs.lemmas.Result.{MatchResult-from_both}
use Rattle.orc_ways.specs.Values.{sites_of}
use Rattle.orc_orders.specs.TrialFaults.{IsFaultOfWay}
use Rattle.orc_orders.specs.Trying.{IsToldOfWay}
use Rattle.orc_orders.proofs.ways.fn.Batch.run.for_each_mut.Goals as goal

pub returns : goal.returns
returns c d =
    let b = c.captures.self.now in
    let t = b.trials.now in
    let way = b.first + c.args.at in
    let read = c.as_slice.ensures.value ∙ ap (λ (s : Vec ℕ). s.items) (get_or_default b.scripts.now c.args.at c.index-self-at.result d c.requires.0) in
    subst (λ (script : List ℕ). MatchResult c.try_way.result (IsToldOfWay t.source.now (sites_of t.sites.now) t.claims.now t.orders t.limit way script) (IsFaultOfWay t.source.now script t.limit)) read
    (MatchResult-from_both c.try_way.result (IsToldOfWay t.source.now (sites_of t.sites.now) t.claims.now t.orders t.limit way c.as_slice.result.now) (IsFaultOfWay t.source.now c.as_slice.result.now t.limit) c.try_way.ensures.told c.try_way.ensures.fault)
