use Rattle.std.proofs.Common.{◌-◌, [], ◌∷◌, take, sym, ap, ◌∙◌, arith}
use Rattle.orc_syntax.specs.Machine as machine
use Rattle.orc_syntax.specs.declared.reader.Frame.{Frame}
use Rattle.orc_syntax.specs.View.{frame, over}
use Rattle.orc_syntax.proofs.Views.{over_at}
use Rattle.orc_syntax.proofs.reader.Reader.behind.Goals as goal

pub loop-count-preserved : goal.loop-count-preserved
loop-count-preserved c =
    let k = over [] (take (c.loop-count.count - 1) c.args.self.now.frames.items) in
    let e = over_at c.args.self.now.frames.items c.loop-count.count c.index.result.now c.loop-count-test.true c.loop-count.invariant.within c.index.ensures in
    record {
      within = omega arith;
      same = ap (λ (f : Frame). machine.behind (frame f ∷ k)) (sym c.in-Before.is) ∙ ap machine.behind (sym e) ∙ c.loop-count.invariant.same;
    }

pub returns-in-Bracket : goal.returns-in-Bracket
returns-in-Bracket c =
    let k = over [] (take (c.loop-count.count - 1) c.args.self.now.frames.items) in
    let e = over_at c.args.self.now.frames.items c.loop-count.count c.index.result.now c.loop-count-test.true c.loop-count.invariant.within c.index.ensures in
    ap (λ (f : Frame). machine.behind (frame f ∷ k)) (sym c.in-Bracket.is) ∙ ap machine.behind (sym e) ∙ c.loop-count.invariant.same

pub returns-in-Arguments : goal.returns-in-Arguments
returns-in-Arguments c =
    let k = over [] (take (c.loop-count.count - 1) c.args.self.now.frames.items) in
    let e = over_at c.args.self.now.frames.items c.loop-count.count c.index.result.now c.loop-count-test.true c.loop-count.invariant.within c.index.ensures in
    ap (λ (f : Frame). machine.behind (frame f ∷ k)) (sym c.in-Arguments.is) ∙ ap machine.behind (sym e) ∙ c.loop-count.invariant.same

pub returns-in-Bound : goal.returns-in-Bound
returns-in-Bound c =
    let k = over [] (take (c.loop-count.count - 1) c.args.self.now.frames.items) in
    let e = over_at c.args.self.now.frames.items c.loop-count.count c.index.result.now c.loop-count-test.true c.loop-count.invariant.within c.index.ensures in
    ap (λ (f : Frame). machine.behind (frame f ∷ k)) (sym c.in-Bound.is) ∙ ap machine.behind (sym e) ∙ c.loop-count.invariant.same

pub returns-in-Body : goal.returns-in-Body
returns-in-Body c =
    let k = over [] (take (c.loop-count.count - 1) c.args.self.now.frames.items) in
    let e = over_at c.args.self.now.frames.items c.loop-count.count c.index.result.now c.loop-count-test.true c.loop-count.invariant.within c.index.ensures in
    ap (λ (f : Frame). machine.behind (frame f ∷ k)) (sym c.in-Body.is) ∙ ap machine.behind (sym e) ∙ c.loop-count.invariant.same
