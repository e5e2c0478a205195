use Rattle.std.proofs.Common.{List, ap, ◌∙◌}
use Rattle.orc_search.specs.declared.made.Made.{Made}
use Rattle.orc_search.specs.Asked.{times_of}
use Rattle.orc_schedules.specs.Counts.{count_of, made_at, times_with}
use Rattle.orc_schedules.proofs.Raised.{raised_made}
use Rattle.orc_schedules.proofs.counts.Counts.raised.Goals as goal

pub returns-clause-times : goal.returns-clause-times
returns-clause-times c = λ m args.
    let place = c.place_of-place.ensures in
    raised_made c.made-made.result.now (made_at c.number_of.new.self c.in_ok-to.to) c.args.calls c.place_of-place.result.at c.place_of-place.result.again place.within place.before place.again
    (c.in_ok-to.ensures.counts ∙ c.in_ok-list.ensures) m args
    ∙ ap (λ (l : List Made). times_with (count_of c.args.calls) (times_of l) m args) c.made-made.ensures
