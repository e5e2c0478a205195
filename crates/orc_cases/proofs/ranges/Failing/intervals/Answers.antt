-- The delays were put in their order.
use Rattle.std.proofs.Common.{ap, ◌∙◌}
use Rattle.orc_cases.specs.Intervals.{ascending, intervals}
use Rattle.orc_cases.proofs.Ascending.{sorted_is}
use Rattle.orc_cases.proofs.ranges.Failing.intervals.Goals as goal

pub returns : goal.returns
returns c =
    c.in_ok-found.ensures
    ∙ ap intervals (c.as_slice.ensures.value ∙ sorted_is c.in_ok-delays.delays.items c.sort_unstable.new.self.items c.sort_unstable.ensures.permutation c.sort_unstable.ensures.sorted ∙ ap ascending c.in_ok-delays.ensures)
