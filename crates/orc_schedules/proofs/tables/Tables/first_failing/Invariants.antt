use Rattle.std.proofs.Common.{◌≡◌, map, take, true}
use Rattle.orc_rules.specs.Timed.{IsIn}
use Rattle.orc_schedules.specs.Adding.{holds_by}
use Rattle.orc_schedules.specs.Reached.{EndSeen}
use Rattle.orc_schedules.specs.Tables.{outcome_at}
use Rattle.orc_schedules.proofs.tables.Tables.first_failing.Given as goal

abbrev pub invariant-loop-told : goal.invariant-loop-told
invariant-loop-told l = (o : EndSeen) → IsIn o (map (outcome_at l.self) (take l.told-index l.told-items)) → holds_by l.claim o ≡ true
