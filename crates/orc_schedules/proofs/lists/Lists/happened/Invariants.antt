use Rattle.std.proofs.Common.{◌≡◌, ◌++◌}
use Rattle.std.specs.Prelude.{reverse}
use Rattle.orc_schedules.specs.Lists.{list_at, lists}
use Rattle.orc_schedules.specs.Seen.{Past}
use Rattle.orc_schedules.proofs.lists.Lists.happened.Given as goal

abbrev pub invariant-loop-longer : goal.invariant-loop-longer
invariant-loop-longer l = Past.happened (list_at (lists l.self) l.at) ≡ Past.happened (list_at (lists l.self) l.rest) ++ reverse l.happened.items

abbrev pub decreases-loop-longer : goal.decreases-loop-longer
decreases-loop-longer l = l.rest
