use Rattle.std.proofs.Common.{sym, subst}
use Rattle.orc_checker.specs.Over.{RightIs}
use Rattle.orc_checker.proofs.Offered.{right_is}
use Rattle.orc_checker.proofs.marked.Marked.right_has_halted.Goals as goal

pub returns : goal.returns
returns c x l p sp =
    let o = c.in_ok-pruning.pruning in
    subst (RightIs p c.args.cell) (sym c.part_has_halted.ensures) (right_is x l c.args.self.now p sp o.parent o.at c.args.cell o.left o.right c.in_ok-pruning.ensures.there)
