use Rattle.std.proofs.Common.{◌<◌, length, Some, sym, ap, ◌∙◌, arith}
use Rattle.orc_schedules.specs.Counts.{count_of}
use Rattle.orc_schedules.proofs.Growing.{get_there}
use Rattle.orc_schedules.proofs.Raised.{before_next}
use Rattle.orc_schedules.proofs.counts.place_of.Goals as goal

pub returns-then-is_kind-clause-again : goal.returns-then-is_kind-clause-again
returns-then-is_kind-clause-again c =
    let e = c.index-made-at.result in
    let lt : c.loop-at.at < length c.args.made.now = omega arith in
    λ again. (e, get_there c.args.made.now c.loop-at.at e lt ∙ ap Some (sym c.index-made-at.is), sym c.is_kind.ensures ∙ c.if-is_kind.true)

pub loop-at-preserved : goal.loop-at-preserved
loop-at-preserved c = before_next c.args.made.now (count_of c.args.calls.now) c.loop-at.at c.index-made-at.result c.loop-at.invariant c.index-made-at.is (sym c.is_kind.ensures ∙ c.if-is_kind.false)
