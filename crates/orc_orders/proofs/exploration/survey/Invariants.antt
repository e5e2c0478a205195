-- The orders so far were counted.
use Rattle.std.proofs.Common.{◌-◌, ◌≤◌}
use Rattle.orc_orders.specs.Survey.{IsSurvey}
use Rattle.orc_orders.proofs.exploration.survey.Given as goal

abbrev pub invariant-loop-next : goal.invariant-loop-next
invariant-loop-next g l = IsSurvey l.program l.answers l.limit l.next l.seen × (l.next ≤ l.orders) × (1 ≤ l.batch) × (1 ≤ l.threads)

abbrev pub decreases-loop-next : goal.decreases-loop-next
decreases-loop-next g l = l.orders - l.next
