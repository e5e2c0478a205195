use Rattle.std.proofs.Common.{◌+◌, ◌∙◌, ap, sym, subst, arith, ◌++◌, ◌∷◌, [], length, length-append, false}
use Rattle.orc_rules.specs.Nodes.{code, HasParts}
use Rattle.orc_rules.specs.Idle.{has_halted}
use Rattle.orc_checker.proofs.Halting.{AreHaltsBelow, none_yet, flag_right, next_right, all_right, parts_in}
use Rattle.orc_checker.proofs.halts.Halts.new.Goals as goal

pub loop-i-init : goal.loop-i-init
loop-i-init c = (subst (λ z. AreHaltsBelow (code c.args.program.now) 0 z) (sym c.new-flags.ensures.items) (none_yet (code c.args.program.now)), ap length c.new-queued.ensures.items)

pub loop-i-preserved : goal.loop-i-preserved
loop-i-preserved c =
    let l = c.args.program.now in
    let flags = c.loop-i.flags.items in
    let is = c.node.ensures.node in
    let parts = subst (HasParts c.loop-i.i) (sym is) (parts_in l.nodes c.loop-i.i c.are_parts_first.ensures (omega (arith, c.loop-i-test.true, c.len-i-end.ensures))) in
    let right = c.flag_of.ensures ∙ flag_right (code l) l.lists flags c.loop-i.i c.node.result c.loop-i.invariant.0 parts ∙ ap has_halted (sym c.node.ensures.term) in (
      subst (λ z. AreHaltsBelow (code l) (c.loop-i.i + 1) z) (sym c.in_ok-push.ensures.items)
          (subst (λ z. AreHaltsBelow (code l) z (flags ++ c.flag_of.result ∷ [])) (omega arith) (next_right (code l) flags c.loop-i.i c.flag_of.result c.loop-i.invariant.0 right)),
      omega (arith, ap length c.in_ok-push-2.ensures.items, length-append c.loop-i.queued.items (false ∷ []), c.loop-i.invariant.1),
    )

pub returns : goal.returns
returns c =
    let l = c.args.program.now in
    all_right (code l) l.lists l.nodes c.loop-i.flags.items c.are_unfolded.ensures
    (subst (λ z. AreHaltsBelow (code l) z c.loop-i.flags.items) (omega (arith, c.loop-i-test.false, c.loop-i.auto.i-end, c.len-i-end.ensures)) c.loop-i.invariant.0)

pub invariant_of-result : goal.invariant_of-result
invariant_of-result c = omega (arith, c.loop-i.invariant.0.len, c.loop-i.invariant.1)
