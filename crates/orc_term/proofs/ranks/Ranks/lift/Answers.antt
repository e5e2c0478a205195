use Rattle.std.proofs.Common.{◌<◌, ◌∷◌, [], ap, sym, subst, arith, get_or}
use Rattle.orc_term.specs.declared.arena.Node.{Node}
use Rattle.orc_term.specs.Ranks.{rank, AreRankedBut}
use Rattle.orc_term.specs.Rising.{nowhere}
use Rattle.orc_term.proofs.Ranking.{late_lifted, ranked_lifted}
use Rattle.orc_term.proofs.ranks.Ranks.lift.Goals as goal

pub returns-then-rank-rank_at : goal.returns-then-rank-rank_at
returns-then-rank-rank_at c nodes parent is kept _ =
    let r = c.args.self.now in
    let ranks = r.numbers.items in
    let i = c.args.i in
    let both = c.args.both in
    let lower : rank ranks (Node.parent (get_or nodes i nowhere)) < rank ranks both = omega (arith, c.if-rank_at-rank.true, c.rank_at.ensures, c.rank_at-rank.ensures, ap (rank ranks) parent) in
    let room : rank ranks both < rank ranks i = omega (arith, c.if-rank-rank_at.true, c.rank_at-rank.ensures, c.rank_at-then-rank_at-rank.ensures) in
    subst (λ z. AreRankedBut z ranks r.most []) (sym is) (ranked_lifted nodes ranks r.most i both (kept c.if-not-self.false) lower room)

pub returns-else-rank-rank_at : goal.returns-else-rank-rank_at
returns-else-rank-rank_at c nodes parent is kept =
    let r = c.args.self.now in
    let ranks = r.numbers.items in
    let i = c.args.i in
    let both = c.args.both in
    let lower : rank ranks (Node.parent (get_or nodes i nowhere)) < rank ranks both = omega (arith, c.if-rank_at-rank.true, c.rank_at.ensures, c.rank_at-rank.ensures, ap (rank ranks) parent) in
    c.make_room.ensures (subst (λ z. AreRankedBut z ranks r.most (both ∷ [])) (sym is) (late_lifted nodes ranks r.most i both (kept c.if-not-self.false) lower))
