use Rattle.std.proofs.Common.{◌∙◌, ap, sym, subst, reverse}
use Rattle.orc_term.specs.Dropping.{calls_at, AreRising}
use Rattle.orc_term.proofs.Sorting.{rising, reverse-twice}
use Rattle.orc_term.proofs.side.falling_calls.Goals as goal

pub returns : goal.returns
returns c =
    let calls = calls_at c.args.nodes.now.items c.args.side.now.items in
    subst (AreRising calls) (sym (ap reverse c.reverse.ensures.items ∙ reverse-twice c.sort_unstable.new.self.items)) (rising c.in_ok-calls.calls.items c.sort_unstable.new.self.items calls c.in_ok-calls.ensures c.sort_unstable.ensures.permutation c.sort_unstable.ensures.sorted)
