use Rattle.std.proofs.Common.{◌∙◌, arith}
use Rattle.orc_term.proofs.Ranking.{all_late}
use Rattle.orc_term.proofs.ranks.Ranks.renew.Goals as goal

pub returns-in-Ok : goal.returns-in-Ok
returns-in-Ok c ok =
    let items = c.args.items.now.items in
    let many = c.len.ensures ∙ c.args.items.now.ok.0 in
    c.settle-self.ensures ok
    (all_late items c.push_all.new.numbers.items c.push_all.new.late.items (c.in-Ok.ensures.len c.clear.ensures.items ∙ many) (c.in-Ok.ensures.none c.clear.ensures.items)
    (λ i lt. c.in-Ok.ensures.each i (omega (arith, lt, many))))
