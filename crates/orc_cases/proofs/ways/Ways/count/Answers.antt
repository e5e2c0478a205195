-- There are as many numbers as ways.
use Rattle.std.proofs.Common.{ap, ◌∙◌, length}
use Rattle.orc_cases.specs.Ways.{ways}
use Rattle.orc_cases.proofs.Limit.{count_is}
use Rattle.orc_cases.proofs.ways.Ways.count.Goals as goal

pub returns : goal.returns
returns c = ap length c.as_slice.ensures.value ∙ count_is c.self.inside.frame c.self.inside.numbers.items c.self.invariant ∙ ap (λ w. length (ways w)) c.self.view_is
