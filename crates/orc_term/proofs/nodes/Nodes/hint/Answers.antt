use Rattle.std.proofs.Common.{sym, subst}
use Rattle.orc_term.specs.Hints.{Stock, IsAbove}
use Rattle.orc_term.proofs.Hints.{hint_is_above}
use Rattle.orc_term.proofs.nodes.Nodes.hint.Goals as goal

pub returns : goal.returns
returns c =
    let n = c.self.inside in
    subst (λ (z : Stock). IsAbove z.items c.args.i c.hint_at.result) c.self.view_is (subst (IsAbove n.items.items c.args.i) (sym c.hint_at.ensures) (hint_is_above n.items.items n.hints.items c.args.i c.self.invariant.0))
