use Rattle.std.proofs.Common.{◌≡◌, map, take}
use Rattle.orc_schedules.specs.Adding.{outcome_of, shown_of}
use Rattle.orc_schedules.specs.declared.told.Told.{Told}
use Rattle.orc_schedules.specs.Tables.{outcome_at}
use Rattle.orc_schedules.proofs.tables.Tables.ended.Given as goal

abbrev pub invariant-loop-told : goal.invariant-loop-told
invariant-loop-told l = map outcome_of l.ended.items ≡ map (λ (x : Told). shown_of (outcome_at l.self x)) (take l.told-index l.told-items)
