use Rattle.std.proofs.Common.{◌∷◌, [], ap, ◌∙◌}
use Rattle.orc_schedules.specs.Seen.{nothing_yet}
use Rattle.orc_schedules.specs.Lists.{lists}
use Rattle.orc_schedules.proofs.Growing.{grows_added}
use Rattle.orc_schedules.proofs.Longer.{lists_stay}
use Rattle.orc_schedules.proofs.lists.Lists.number_of.Goals as goal

pub returns-clause-kept : goal.returns-clause-kept
returns-clause-kept c = lists_stay c.self.inside.calls c.place.new.self (grows_added c.self.inside.calls c.place.new.self c.args.what c.place.ensures.kept) (nothing_yet ∷ []) c.self.inside.longer.items c.self.invariant.1 ∙ ap lists c.self.view_is
