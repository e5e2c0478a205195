-- The orders so far were counted.
use Rattle.orc_orders.specs.Survey.{IsSurvey}
use Rattle.orc_orders.proofs.exploration.Surveyor.go.Given as goal

abbrev pub invariant-loop-order : goal.invariant-loop-order
invariant-loop-order g l = IsSurvey l.self.program.now l.self.answers.now l.self.limit l.first l.fn.seen → IsSurvey l.self.program.now l.self.answers.now l.self.limit l.order l.seen
