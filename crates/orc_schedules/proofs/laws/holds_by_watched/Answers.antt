use Rattle.orc_schedules.proofs.Watching.{holds_by_watched}
use Rattle.orc_schedules.proofs.laws.holds_by_watched.Goals as goal

pub returns : goal.returns
returns c = holds_by_watched
