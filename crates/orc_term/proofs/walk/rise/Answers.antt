use Rattle.std.proofs.Common.{◌≡◌, ◌+◌, ◌∙◌, ap, sym, subst, get_or, arith, length, length-set}
use Rattle.std.specs.Prelude.{slice_set}
use Rattle.orc_term.specs.declared.arena.Node.{Node}
use Rattle.orc_term.specs.Rising.{nowhere, pass_node, up}
use Rattle.orc_term.specs.Hints.{Stock, CanBecome}
use Rattle.orc_term.proofs.Rising.{passes_on}
use Rattle.orc_term.proofs.Climbing.{Climbs, climbs_over, climbs_on, climbs_whole, climbs_up, climbs_out}
use Rattle.orc_term.proofs.Hints.{can_pass}
use Rattle.orc_term.proofs.walk.rise.Goals as goal

pub returns-then-top-eq0-clause-rises : goal.returns-then-top-eq0-clause-rises
returns-then-top-eq0-clause-rises c =
    let old = c.args.nodes.now.items in
    let nodes = c.loop-steps.nodes.items in
    climbs_whole old nodes c.args.from c.hint-top.result c.loop-steps._steps (climbs_over old nodes c.args.from c.loop-steps.place c.hint-top.result c.loop-steps._steps c.loop-steps.invariant.0 c.hint-top.ensures) c.if-top-eq0.true

pub returns-in-Some-clause-rises : goal.returns-in-Some-clause-rises
returns-in-Some-clause-rises c =
    let old = c.args.nodes.now.items in
    let nodes = c.loop-steps.nodes.items in
    let p = c.node_at-parent.ensures in
    let a = c.node_at-above.ensures ∙ ap (λ (z : Node). get_or nodes z.parent nowhere) p in
    climbs_up old nodes c.args.from c.hint-top.result c.loop-steps._steps _ (climbs_over old nodes c.args.from c.loop-steps.place c.hint-top.result c.loop-steps._steps c.loop-steps.invariant.0 c.hint-top.ensures) (λ e. c.if-top-eq0.false e)
    (sym c.in-Some.is ∙ c.taker_here.ensures ∙ (λ j. up (Node.kind (a j)) c.hint-top.result (Node.parent (p j))))

pub write_node-requires : goal.write_node-requires
write_node-requires c =
    let nodes = c.loop-steps.nodes.items in
    let place = c.node_at-parent.result.parent in
    subst (CanBecome nodes place) (sym (c.passed.ensures ∙ ap pass_node c.node_at-above.ensures)) (can_pass nodes place)

pub loop-steps-preserved : goal.loop-steps-preserved
loop-steps-preserved c =
    let old = c.args.nodes.now.items in
    let nodes = c.loop-steps.nodes.items in
    let p = c.node_at-parent.ensures in
    let a = c.node_at-above.ensures ∙ ap (λ (z : Node). get_or nodes z.parent nowhere) p in
    let place = Node.parent (get_or nodes c.hint-top.result nowhere) in
    let is : c.shorten.new.self.items ≡ slice_set nodes place (pass_node (get_or nodes place nowhere)) =
    ap Stock.items c.shorten.ensures ∙ c.write_node.ensures.items ∙ (λ j. slice_set nodes (Node.parent (p j)) ((c.passed.ensures ∙ ap pass_node a) j)) in (
      subst (λ z. Climbs old c.args.from c.shorten.new.self.items z (c.loop-steps._steps + 1)) (sym (ap Node.parent p))
          (climbs_on old nodes c.shorten.new.self.items c.args.from c.hint-top.result c.loop-steps._steps
          (climbs_over old nodes c.args.from c.loop-steps.place c.hint-top.result c.loop-steps._steps c.loop-steps.invariant.0 c.hint-top.ensures) (λ e. c.if-top-eq0.false e)
          (sym c.in-None.is ∙ c.taker_here.ensures ∙ (λ j. up (Node.kind (a j)) c.hint-top.result (Node.parent (p j)))) is),
      ap length is ∙ length-set nodes place _ ∙ c.loop-steps.invariant.1,
      passes_on old nodes c.shorten.new.self.items place c.loop-steps.invariant.2 is,
      ap Stock.room c.shorten.ensures ∙ c.write_node.ensures.room ∙ c.loop-steps.invariant.3,
      ap Stock.asked c.shorten.ensures ∙ c.write_node.ensures.asked ∙ c.loop-steps.invariant.4,
    )

pub returns-clause-rises : goal.returns-clause-rises
returns-clause-rises c = climbs_out c.args.nodes.now.items c.loop-steps.nodes.items c.args.from c.loop-steps.place c.loop-steps._steps c.loop-steps.invariant.0 (omega (arith, c.len-steps-end.ensures.count, c.loop-steps-test.false))
