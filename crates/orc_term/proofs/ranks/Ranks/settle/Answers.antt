use Rattle.std.proofs.Common.{ap, sym, subst}
use Rattle.orc_term.specs.declared.arena.Node.{Node}
use Rattle.orc_term.specs.Ranks.{AreRankedBut}
use Rattle.orc_term.proofs.Ranking.{late_popped}
use Rattle.orc_term.proofs.ranks.Ranks.settle.Goals as goal

pub loop-step-preserved : goal.loop-step-preserved
loop-step-preserved c all =
    let items = c.args.items.now.items in
    let ranks = c.loop-step.self.numbers.items in
    let most = c.loop-step.self.most in
    let late = subst (AreRankedBut items ranks most) c.in-Some.ensures.items (c.loop-step.invariant all) in
    c.settle_parts.ensures c.if-not-settle_parts.false items (ap Node.kind (sym c.item-kind.ensures)) (late_popped items ranks most c.in-Some.above c.pop.new.self.items late)
