use Rattle.std.proofs.Common.{refl, ◌+◌, ◌++◌, ◌∷◌, [], ◌∙◌, ap, sym, subst, length, take, arith, length-set}
use Rattle.std.proofs.lemmas.List.{take_more}
use Rattle.orc_term.specs.declared.arena.Node.{Node}
use Rattle.orc_term.specs.Hints.{CanBecome}
use Rattle.orc_term.proofs.Dropping.{gone, dropped_on}
use Rattle.orc_term.proofs.KeptSides.{sides_on, sides_written}
use Rattle.orc_term.proofs.Hints.{can_go}
use Rattle.orc_term.proofs.side.drop_nodes.Goals as goal

pub write_node-requires : goal.write_node-requires
write_node-requires c =
    let nodes = c.loop-next.nodes.items in
    let i = c.index.result.now in
    subst (λ z. CanBecome nodes i (gone (Node.parent z))) (sym c.node_at-parent.ensures) (can_go nodes i)

pub loop-next-preserved : goal.loop-next-preserved
loop-next-preserved c =
    let nodes = c.loop-next.nodes.items in
    let found = c.args.found.now.items in
    let next = c.loop-next.next in
    let i = c.index.result.now in (
      dropped_on c.args.nodes.now.items c.loop-next.nodes.items c.write_node.new.self.items (take next found) (take (next + 1) found) i c.node_at-parent.result.parent c.loop-next.invariant.0
          c.write_node.ensures.items
          (take_more found next i (omega (arith, c.loop-next-test.true, c.len-next-end.ensures)) ∙ ap (λ z. take next found ++ z ∷ []) (sym c.index.ensures)),
      ap length c.write_node.ensures.items ∙ length-set c.loop-next.nodes.items _ _ ∙ c.loop-next.invariant.1,
      λ n. sides_on n c.args.nodes.now.items nodes c.write_node.new.self.items (c.loop-next.invariant.2 n) (sides_written n nodes c.write_node.new.self.items i _ c.write_node.ensures.items (subst (λ z. CanBecome nodes i (gone (Node.parent z))) (sym c.node_at-parent.ensures) (can_go nodes i)) (λ p lt. refl)),
      c.write_node.ensures.asked ∙ c.loop-next.invariant.3,
    )
