use Rattle.std.proofs.Common.{◌∙◌, arith, rules}
use Rattle.orc_syntax.proofs.Backward.{said_front, said_start}
use Rattle.orc_syntax.proofs.printer.push_pieces.Goals as goal

pub loop-count-init : goal.loop-count-init
loop-count-init c = (said_start c.args.pieces.now c.args.out.now.items, omega arith)

pub loop-count-preserved : goal.loop-count-preserved
loop-count-preserved c = (
  c.in_ok-push_piece.ensures ∙ said_front c.args.pieces.now c.loop-count.count _ c.loop-count.out.items c.args.out.now.items (search rules) c.loop-count.invariant.1 c.loop-count.invariant.0,
  omega (arith, c.loop-count.invariant.1),
)
