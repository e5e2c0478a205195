use Rattle.std.proofs.Common.{◌∙◌, [], map, ap}
use Rattle.orc_calls.specs.Counting.{entry_of, nth_in}
use Rattle.orc_calls.proofs.BareCalls.{none_yet, noted}
use Rattle.orc_calls.proofs.counts.Counts.nth_bare.Goals as goal

pub returns-then-next-eq0-clause-nth : goal.returns-then-next-eq0-clause-nth
returns-then-next-eq0-clause-nth c =
    none_yet c.self.inside.bare (map entry_of c.self.inside.next.entries) c.args.site c.get-next.result c.self.invariant.1 c.get-next.ensures c.if-next-eq0.true
    ∙ ap (λ z. nth_in z c.args.site []) c.self.view_is

pub returns-else-next-eq0-clause-nth : goal.returns-else-next-eq0-clause-nth
returns-else-next-eq0-clause-nth c =
    noted c.self.inside.bare (map entry_of c.self.inside.next.entries) c.args.site c.get-next.result c.self.invariant.1 c.get-next.ensures c.if-next-eq0.false
    ∙ ap (λ z. nth_in z c.args.site []) c.self.view_is
