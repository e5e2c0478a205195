use Rattle.std.proofs.Common.{refl, ◌∙◌, ap, sym, subst, true, length, length-set}
use Rattle.orc_term.specs.Settling.{Settles}
use Rattle.orc_term.proofs.Settling.{Settled, fewer, settled_none, settled_on, settled_all, settled_not}
use Rattle.orc_term.proofs.KeptSides.{flags_same, flags_on}
use Rattle.orc_term.proofs.flags.settle.Goals as goal

pub loop-above-init : goal.loop-above-init
loop-above-init c =
    let nodes = c.args.nodes.now.items in
    let flags = c.args.flags.now.items in (
      subst (λ z. Settled nodes flags c.args.from z c.args.from) (sym c.set_flag.ensures.items) (settled_none nodes flags c.args.from),
      ap length c.set_flag.ensures.items ∙ length-set flags c.args.from true,
      c.set_flag.ensures.capacity,
      flags_on nodes flags flags c.set_flag.new.flags.items _ c.set_flag.new.candidates c.args.from (flags_same nodes flags flags c.args.candidates.now refl) c.set_flag.ensures.items c.set_flag.ensures.known c.set_flag.ensures.kept,
      c.set_flag.ensures.kept,
    )

pub loop-above-smaller : goal.loop-above-smaller
loop-above-smaller c =
    let flags = c.loop-above.flags.items in
    rw c.set_flag-in-Some.ensures.items (fewer flags c.in-Some.above c.in-Some.ensures.next.1)

pub loop-above-preserved : goal.loop-above-preserved
loop-above-preserved c =
    let nodes = c.args.nodes.now.items in
    let old = c.args.flags.now.items in
    let flags = c.loop-above.flags.items in (
      subst (λ z. Settled nodes old c.args.from z c.in-Some.above) (sym c.set_flag-in-Some.ensures.items) (settled_on nodes old c.args.from flags c.loop-above.place c.in-Some.above c.loop-above.invariant.0 c.in-Some.ensures.next),
      ap length c.set_flag-in-Some.ensures.items ∙ length-set flags c.in-Some.above true ∙ c.loop-above.invariant.1,
      c.set_flag-in-Some.ensures.capacity ∙ c.loop-above.invariant.2,
      flags_on nodes old flags c.set_flag-in-Some.new.flags.items c.loop-above.candidates c.set_flag-in-Some.new.candidates c.in-Some.above c.loop-above.invariant.3 c.set_flag-in-Some.ensures.items c.set_flag-in-Some.ensures.known c.set_flag-in-Some.ensures.kept,
      λ p m. c.set_flag-in-Some.ensures.kept p (c.loop-above.invariant.4 p m),
    )

pub returns-in_default-clause-settles : goal.returns-in_default-clause-settles
returns-in_default-clause-settles c =
    let nodes = c.args.nodes.now.items in
    let old = c.args.flags.now.items in
    subst (λ z. Settles nodes old c.args.from z c.loop-above.flags.items) (sym c.if-halted.true)
    (settled_all nodes old c.args.from c.loop-above.flags.items c.loop-above.place c.loop-above.invariant.0 (c.in_default.ensures.last))

pub returns-else-halted-clause-settles : goal.returns-else-halted-clause-settles
returns-else-halted-clause-settles c =
    subst (λ z. Settles c.args.nodes.now.items c.args.flags.now.items c.args.from z c.args.flags.now.items) (sym c.if-halted.false)
    (settled_not c.args.nodes.now.items c.args.flags.now.items c.args.from)

pub returns-else-halted-clause-known : goal.returns-else-halted-clause-known
returns-else-halted-clause-known c = flags_same c.args.nodes.now.items c.args.flags.now.items c.args.flags.now.items c.args.candidates.now refl
