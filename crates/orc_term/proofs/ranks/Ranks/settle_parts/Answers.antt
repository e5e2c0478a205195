use Rattle.std.proofs.Common.{◌≡◌, ◌<◌, length, arith, ap, subst, ⊎_elim, ◌∙◌}
use Rattle.orc_term.specs.Ranks.{rank, IsPart}
use Rattle.orc_term.proofs.Ranking.{late_settled}
use Rattle.orc_term.proofs.ranks.Ranks.settle_parts.Goals as goal

pub returns-then-settle_part : goal.returns-then-settle_part
returns-then-settle_part c ok nodes kind all =
    let above = c.args.above in
    let one = c.settle_part-in-Two in
    let two = c.settle_part-then-settle_part in
    let first = one.ensures.kept c.if-settle_part.true nodes all in
    let second = two.ensures.kept ok nodes first in
    let ranks = two.new.self.numbers.items in
    late_settled nodes ranks two.new.self.most above two.new.late.items
    (λ i part lt.
    ⊎_elim
    (λ (e : c.in-Two.left ≡ i).
    let there : c.in-Two.left < length one.new.self.numbers.items = omega (arith, lt, e, first.len, second.len) in
    omega (arith, one.ensures.part c.if-settle_part.true there, two.ensures.above ok, two.ensures.grows ok c.in-Two.left, ap (rank ranks) e))
    (λ (e : c.in-Two.right ≡ i).
    let there : c.in-Two.right < length ranks = omega (arith, lt, e) in
    omega (arith, two.ensures.part ok there, ap (rank ranks) e))
    (subst (λ z. IsPart z i) (kind ∙ c.in-Two.is) part))
    second
