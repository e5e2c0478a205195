use Rattle.std.proofs.Common.{subst}
use Rattle.orc_term.specs.Hints.{Stock}
use Rattle.orc_term.specs.Ranks.{AreLevelsAtMost}
use Rattle.orc_term.proofs.Ranking.{levels_by_rank}
use Rattle.orc_term.proofs.nodes.Nodes.levels_below.Goals as goal

pub returns-then-self : goal.returns-then-self
returns-then-self c =
    let n = c.self.inside in
    subst (λ (z : Stock). AreLevelsAtMost z.items n.ranks.most) c.self.view_is (levels_by_rank n.items.items n.ranks.numbers.items n.ranks.most (c.self.invariant.2 c.if-self.true))
