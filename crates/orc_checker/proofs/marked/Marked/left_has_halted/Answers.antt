use Rattle.std.proofs.Common.{sym, subst}
use Rattle.orc_checker.specs.Over.{LeftIs}
use Rattle.orc_checker.proofs.Offered.{left_is}
use Rattle.orc_checker.proofs.marked.Marked.left_has_halted.Goals as goal

pub returns : goal.returns
returns c x l p sp =
    let o = c.in_ok-entered.entered in
    subst (LeftIs p c.args.otherwise) (sym c.part_has_halted.ensures) (left_is x l c.args.self.now p sp o.parent o.at c.args.otherwise o.node o.scope o.left c.in_ok-entered.ensures.there)
