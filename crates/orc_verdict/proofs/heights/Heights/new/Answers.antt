use Rattle.std.proofs.Common.{◌+◌, ◌∙◌, ap, sym, subst, arith, ◌++◌, ◌∷◌, []}
use Rattle.orc_rules.specs.Nodes.{code, HasParts}
use Rattle.orc_rules.specs.Refusal.{depth}
use Rattle.orc_checker.proofs.Halting.{parts_in}
use Rattle.orc_verdict.proofs.Levels.{AreHeightsBelow, none_yet, low_parts, height_right, height_low, next_right, all_right}
use Rattle.orc_verdict.proofs.heights.Heights.new.Goals as goal

pub loop-i-init : goal.loop-i-init
loop-i-init c = subst (λ z. AreHeightsBelow (code c.args.program.now) 0 z) (sym c.new-levels.ensures.items) (none_yet (code c.args.program.now))

pub level_of-requires : goal.level_of-requires
level_of-requires c =
    let l = c.args.program.now in
    let parts = subst (HasParts c.loop-i.i) (sym c.node.ensures.node) (parts_in l.nodes c.loop-i.i c.are_parts_first.ensures (omega (arith, c.loop-i-test.true, c.len-i-end.ensures))) in
    low_parts (code l) l.lists c.loop-i.levels.items c.loop-i.i c.loop-i.invariant c.node.result (omega arith) parts

pub loop-i-preserved : goal.loop-i-preserved
loop-i-preserved c =
    let l = c.args.program.now in
    let levels = c.loop-i.levels.items in
    let i = c.loop-i.i in
    let h = c.loop-i.invariant in
    let parts = subst (HasParts i) (sym c.node.ensures.node) (parts_in l.nodes i c.are_parts_first.ensures (omega (arith, c.loop-i-test.true, c.len-i-end.ensures))) in
    let right = c.level_of.ensures ∙ height_right (code l) l.lists levels i h c.node.result parts ∙ ap depth (sym c.node.ensures.term) in
    subst (λ z. AreHeightsBelow (code l) (i + 1) z) (sym c.in_ok-push.ensures.items)
    (subst (λ z. AreHeightsBelow (code l) z (levels ++ c.level_of.result ∷ [])) (omega arith)
    (next_right (code l) levels i c.level_of.result h right (omega (arith, c.level_of.ensures, height_low (code l) l.lists levels i h c.node.result parts))))

pub returns : goal.returns
returns c =
    let l = c.args.program.now in
    all_right (code l) l.lists l.nodes c.loop-i.levels.items c.are_unfolded.ensures
    (subst (λ z. AreHeightsBelow (code l) z c.loop-i.levels.items) (omega (arith, c.loop-i-test.false, c.loop-i.auto.i-end, c.len-i-end.ensures)) c.loop-i.invariant)
