use Rattle.std.proofs.Common.{◌++◌, ◌∷◌, [], ◌∙◌, ap, sym, take, arith}
use Rattle.std.proofs.lemmas.List.{take_more}
use Rattle.orc_term.specs.declared.arena.Node.{Node}
use Rattle.orc_term.specs.Dropping.{call_of, calls_at}
use Rattle.orc_term.proofs.Leaving.{calls_more}
use Rattle.orc_term.proofs.side.pending_at.Goals as goal

pub loop-next-preserved : goal.loop-next-preserved
loop-next-preserved c =
    let nodes = c.args.nodes.now.items in
    let side = c.args.side.now.items in
    let next = c.loop-next.next in
    let i = c.index.result.now in
    let more = take_more side next i (omega (arith, c.loop-next-test.true, c.len-next-end.ensures)) ∙ ap (λ z. take next side ++ z ∷ []) (sym c.index.ensures) in
    c.in_ok-push_call.ensures ∙ (λ j. c.loop-next.invariant j ++ call_of (Node.kind (c.node_at-node.ensures j))) ∙ sym (ap (calls_at nodes) more ∙ calls_more nodes (take next side) i)
