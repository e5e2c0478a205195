use Rattle.std.proofs.Common.{◌≤◌, ◌∷◌, ℕ, List, arith, sym, subst, max}
use Rattle.std.specs.Prelude.{slice_set}
use Rattle.orc_term.specs.Ranks.{rank, AreRankedBut}
use Rattle.orc_term.proofs.Ranking.{late_raised}
use Rattle.orc_term.proofs.ranks.Ranks.settle_part.Goals as goal

pub returns-clause-kept : goal.returns-clause-kept
returns-clause-kept c _ nodes all =
    let ranks = c.args.self.now.numbers.items in
    let most = c.args.self.now.most in
    let a = c.args.above in
    let part = c.args.part in
    let late = c.args.late.now.items in
    let r = c.in-Some.rank in
    let le : rank ranks part ≤ r = omega (arith, c.if-low-rank_at.false, c.rank_at-low.ensures, c.rank_at.ensures, c.in-Some.ensures, c.step_to.ensures) in
    let raised = late_raised nodes ranks most a late part r le all in
    subst (λ (n : ℕ). AreRankedBut nodes c.set_rank.new.numbers.items n (a ∷ c.push.new.self.items)) (sym c.max-self.ensures)
    (subst (λ (z : List ℕ). AreRankedBut nodes z (max most r) (a ∷ c.push.new.self.items)) (sym c.set_rank.ensures)
    (subst (λ (z : List ℕ). AreRankedBut nodes (slice_set ranks part r) (max most r) (a ∷ z)) (sym c.in-Ok.ensures.items) raised))
