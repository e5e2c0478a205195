use Rattle.std.proofs.Common.{◌≡◌, ◌∙◌, ◌-◌, ◌<◌, ap, sym, get_or, length, arith, false}
use Rattle.std.proofs.lemmas.List.{get_or_read}
use Rattle.orc_term.specs.declared.arena.Node.{Node}
use Rattle.orc_term.specs.Settling.{kind_at}
use Rattle.orc_term.specs.Hints.{restless}
use Rattle.orc_term.proofs.Asking.{listed_less}
use Rattle.orc_term.proofs.restless.keep_restless.Goals as goal

pub loop-next-preserved : goal.loop-next-preserved
loop-next-preserved c i moves was =
    let nodes = c.args.items.now.items in
    let list = c.loop-next.list in
    let new = c.swap_remove-number.new.self in
    let k = c.loop-next.next in
    let lt : k < length list.items = omega (arith, c.loop-next-test.true, c.len.ensures, list.ok.0) in
    let here = get_or_read list.items _ _ lt c.index.ensures 0 in
    let still : restless (kind_at nodes (get_or list.items k 0)) ≡ false = ap restless (ap (kind_at nodes) (sym here) ∙ ap Node.kind (sym c.item.ensures)) ∙ sym c.is_restless.ensures ∙ c.if-is_restless.false in
    listed_less nodes list.items new.items k still lt (omega (arith, c.swap_remove-number.ensures.len, list.ok.0, new.ok.0))
    (λ lt. c.swap_remove-number.ensures.by_index.0 0 (omega (arith, lt, list.ok.0)) ∙ ap (λ z. get_or list.items (z - 1) 0) list.ok.0)
    (λ j off lt. c.swap_remove-number.ensures.by_index.1 j 0 off (omega (arith, lt, list.ok.0)))
    i moves (c.loop-next.invariant i moves was)
