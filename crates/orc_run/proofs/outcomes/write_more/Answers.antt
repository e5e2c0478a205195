-- One outcome more was looked at.
use Rattle.std.proofs.Common.{ap, ◌∙◌}
use Rattle.orc_run.proofs.Searching.{one_seen, one_unseen}
use Rattle.orc_run.proofs.outcomes.write_more.Goals as goal
use Rattle.orc_run.proofs.outcomes.write_more.Goals.{then-is_none+in_ok-write_unseen, else-is_none}

pub loop-ended-preserved : goal.loop-ended-preserved
loop-ended-preserved c =
    let seen = c.args.seen.now in
    let found = c.args.found.now in
    let old = c.args.text.now.items in
    let text = c.loop-ended.text.items in
    let e = c.ended-item.result in
    let vs = c.as_slice-values.result.now in
    elim c.if-is_none.branch [
      | then-is_none+in_ok-write_unseen w ↦
          one_unseen seen found c.args.orders c.loop-ended.ended-index old text c.if-is_none.text.items e vs c.place_of.result c.is_none.result
          c.loop-ended-test.true c.ended-item.is c.as_slice-values.ensures.value c.is_none.ensures w.if-is_none.true c.place_of.ensures c.loop-ended.invariant
          (ap (λ t. t.items) w.text-is ∙ w.in_ok-write_unseen.ensures)
      | else-is_none w ↦
          one_seen seen found c.args.orders c.loop-ended.ended-index old text c.if-is_none.text.items e vs c.place_of.result c.is_none.result
          c.loop-ended-test.true c.ended-item.is c.as_slice-values.ensures.value c.is_none.ensures w.if-is_none.false c.place_of.ensures c.loop-ended.invariant
          (ap (λ t. t.items) w.text-is)
    ]
