use Rattle.std.proofs.Common.{◌≡◌, ◌<◌, ◌∷◌, ◌++◌, [], ◌∙◌, sym, ap, length, subst, arith, length-append}
use Rattle.orc_term.specs.declared.arena.Node.{Node}
use Rattle.orc_term.specs.Dropping.{parts_of}
use Rattle.orc_term.proofs.Dropping.{Spreads, spreads_none, spreads_on}
use Rattle.orc_term.proofs.side.nodes_of.Goals as goal

pub loop-next-init : goal.loop-next-init
loop-next-init c =
    let is : c.push.new.self.items ≡ c.args.root ∷ [] = c.in_ok-push.ensures.items ∙ ap (λ z. z ++ c.args.root ∷ []) c.new-found.ensures.items in
    (subst (λ z. Spreads c.args.nodes.now.items c.args.root z 0) (sym is) (spreads_none c.args.nodes.now.items c.args.root), omega arith)

pub loop-next-preserved : goal.loop-next-preserved
loop-next-preserved c =
    let found = c.loop-next.found.items in
    let more = c.in_ok-push_parts.ensures in
    let lt : c.loop-next.next < length found = omega (arith, c.loop-next.invariant.1, c.if-next-len.false, c.len.ensures) in (
      spreads_on c.args.nodes.now.items c.args.root found c.push_parts.new.found.items c.loop-next.next c.index.result.now c.node_at-node.result.kind c.loop-next.invariant.0 lt c.index.ensures
          (ap Node.kind c.node_at-node.ensures) more,
      omega (arith, lt, ap length more, length-append found (parts_of c.node_at-node.result.kind)),
    )
