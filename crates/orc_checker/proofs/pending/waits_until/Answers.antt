use Rattle.std.proofs.Common.{◌≡◌, ap, sym, ◌∙◌}
use Rattle.orc_term.specs.declared.arena.Node.{Node}
use Rattle.orc_term.specs.declared.arena.Kind.TheVariants.{Leaf}
use Rattle.orc_term.specs.declared.arena.Tip.TheVariants.{Waits}
use Rattle.orc_term.specs.Settling.{kind_at}
use Rattle.orc_checker.proofs.Earliest.{waits_never}
use Rattle.orc_checker.proofs.pending.waits_until.Goals as goal

pub returns-in-None : goal.returns-in-None
returns-in-None c =
    let k = c.in-Waits.call in
    let is : kind_at c.args.nodes.now.items c.args.i ≡ Leaf (Waits k) = ap Node.kind (sym c.node_at.ensures) ∙ c.in-Leaf.is ∙ ap Leaf c.in-Waits.is in
    waits_never c.args.nodes.now.items c.args.calls.now.items c.args.i k c.args.time is c.in-None.ensures.never
