use Rattle.std.proofs.Common.{◌≡◌, ◌++◌, ◌∷◌, [], List, sym, ap, ◌∙◌, arith}
use Rattle.orc_syntax.specs.Machine as machine
use Rattle.orc_syntax.specs.declared.reader.Frame.{Frame}
use Rattle.orc_syntax.specs.declared.reader.Frame.TheVariants as code
use Rattle.orc_syntax.specs.View.{joining, operand, frame, over, nodes, stack}
use Rattle.orc_syntax.proofs.Views.{over_push, over_pop, reduce_stops, reduce_goes, other_stops, node_reduced}
use Rattle.orc_syntax.proofs.reader.Reader.reduce.Goals as goal

pub returns-then-level-clause-reduced : goal.returns-then-level-clause-reduced
returns-then-level-clause-reduced c =
    let m = c.args.level in
    let o = operand c.loop-top.right in
    let ns = nodes c.loop-top.self in
    let f : Frame = code.Before c.in-Before.joining c.in-Before.start in
    let popped = over_pop c.loop-top.self.frames.items c.pop.new.self.items f (c.in-Some.ensures.items ∙ ap (λ (g : Frame). c.pop.new.self.items ++ g ∷ []) c.in-Before.is) in
    let pushed : over [] c.push.new.self.items ≡ frame f ∷ over [] c.pop.new.self.items = ap (over []) c.in_ok-push-in-Before.ensures.items ∙ over_push [] c.pop.new.self.items f in
    sym c.loop-top.invariant.same
    ∙ ap (machine.reduce m o ns) popped
    ∙ reduce_stops m o ns (joining c.in-Before.joining) c.in-Before.start (over [] c.pop.new.self.items) (omega (arith, c.level.ensures, c.if-level.true))
    ∙ ap (λ (k : List machine.Frame). machine.reduced o ns k) (sym pushed)

pub loop-top-preserved : goal.loop-top-preserved
loop-top-preserved c =
    let m = c.args.level in
    let o = operand c.loop-top.right in
    let ns = nodes c.loop-top.self in
    let f : Frame = code.Before c.in-Before.joining c.in-Before.start in
    let k = over [] c.pop.new.self.items in
    let popped = over_pop c.loop-top.self.frames.items c.pop.new.self.items f (c.in-Some.ensures.items ∙ ap (λ (g : Frame). c.pop.new.self.items ++ g ∷ []) c.in-Before.is) in
    record {
      same = node_reduced m (operand c.in_ok-right-in-Before.right) (nodes c.node.new.self) (stack c.node.new.self) c.in-Before.start c.loop-top.right.end ns _ k (joining c.in-Before.joining)
          c.in_ok-right-in-Before.ensures.made.0 c.in_ok-right-in-Before.ensures.made.1 (ap (over []) c.in_ok-right-in-Before.ensures.frames) c.part.ensures
          ∙ sym (ap (machine.reduce m o ns) popped ∙ reduce_goes m o ns (joining c.in-Before.joining) c.in-Before.start k (omega (arith, c.level.ensures, c.if-level.false)))
          ∙ c.loop-top.invariant.same;
      definitions = c.in_ok-right-in-Before.ensures.definitions ∙ c.loop-top.invariant.definitions;
      parameters = c.in_ok-right-in-Before.ensures.parameters ∙ c.loop-top.invariant.parameters;
    }

pub returns-in_default-top : goal.returns-in_default-top
returns-in_default-top c =
    let m = c.args.level in
    let o = operand c.loop-top.right in
    let ns = nodes c.loop-top.self in
    let popped = over_pop c.loop-top.self.frames.items c.pop.new.self.items c.in-Some.top c.in-Some.ensures.items in
    let pushed : over [] c.push-in_default-top.new.self.items ≡ frame c.in-Some.top ∷ over [] c.pop.new.self.items = ap (over []) c.in_ok-push-in_default-top.ensures.items ∙ over_push [] c.pop.new.self.items c.in-Some.top in
    record {
      reduced = sym c.loop-top.invariant.same
          ∙ ap (machine.reduce m o ns) popped
          ∙ other_stops m o ns c.in-Some.top (over [] c.pop.new.self.items) c.in_default-top.not-Before
          ∙ ap (λ (k : List machine.Frame). machine.reduced o ns k) (sym pushed);
      definitions = c.loop-top.invariant.definitions;
      parameters = c.loop-top.invariant.parameters;
    }
