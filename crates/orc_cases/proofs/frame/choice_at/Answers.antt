-- One line more of a way.
use Rattle.std.proofs.Common.{arith}
use Rattle.orc_cases.proofs.Steps.{place_here, place_more, step}
use Rattle.orc_cases.proofs.frame.choice_at.Goals as goal

pub nonzero_div-left : goal.nonzero_div-left
nonzero_div-left c = (step c.args.lines.now c.loop-line.line-index c.loop-line.left c.loop-line.digits c.line-item.result c.as_slice-choices.result.now c.loop-line-test.true c.line-item.is c.as_slice-choices.ensures.value c.loop-line.invariant.counted c.loop-line.invariant.within).some

pub nonzero_div-choice : goal.nonzero_div-choice
nonzero_div-choice c = (step c.args.lines.now c.loop-line.line-index c.loop-line.left c.loop-line.digits c.line-item.result c.as_slice-choices.result.now c.loop-line-test.true c.line-item.is c.as_slice-choices.ensures.value c.loop-line.invariant.counted c.loop-line.invariant.within).left_some

pub bounds-choices-digits : goal.bounds-choices-digits
bounds-choices-digits c = (step c.args.lines.now c.loop-line.line-index c.loop-line.left c.loop-line.digits c.line-item.result c.as_slice-choices.result.now c.loop-line-test.true c.line-item.is c.as_slice-choices.ensures.value c.loop-line.invariant.counted c.loop-line.invariant.within).digit

pub nonzero_rem-digits : goal.nonzero_rem-digits
nonzero_rem-digits c = (step c.args.lines.now c.loop-line.line-index c.loop-line.left c.loop-line.digits c.line-item.result c.as_slice-choices.result.now c.loop-line-test.true c.line-item.is c.as_slice-choices.ensures.value c.loop-line.invariant.counted c.loop-line.invariant.within).left_some

pub loop-line-preserved : goal.loop-line-preserved
loop-line-preserved c =
    let s = step c.args.lines.now c.loop-line.line-index c.loop-line.left c.loop-line.digits c.line-item.result c.as_slice-choices.result.now c.loop-line-test.true c.line-item.is c.as_slice-choices.ensures.value c.loop-line.invariant.counted c.loop-line.invariant.within in
    record {
      counted = s.counted;
      within = s.within;
      so_far = place_more c.args.lines.now c.loop-line.line-index c.loop-line.left c.loop-line.digits c.line-item.result c.as_slice-choices.result.now s c.index-choices-digits.result c.index-choices-digits.is c.loop-line.before _ _ (omega (arith, c.if-before-eq0.false)) c.loop-line.invariant.so_far;
    }

pub returns-then-before-eq0 : goal.returns-then-before-eq0
returns-then-before-eq0 c = place_here c.args.lines.now c.loop-line.line-index c.loop-line.left c.loop-line.digits c.line-item.result c.as_slice-choices.result.now (step c.args.lines.now c.loop-line.line-index c.loop-line.left c.loop-line.digits c.line-item.result c.as_slice-choices.result.now c.loop-line-test.true c.line-item.is c.as_slice-choices.ensures.value c.loop-line.invariant.counted c.loop-line.invariant.within) c.index-choices-digits.result c.index-choices-digits.is c.loop-line.before _ c.if-before-eq0.true c.loop-line.invariant.so_far
