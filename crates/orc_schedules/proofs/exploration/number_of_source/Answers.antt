use Rattle.std.proofs.Common.{Some, ap, ◌∙◌}
use Rattle.orc_schedules.proofs.Starting.{past_source}
use Rattle.orc_schedules.proofs.exploration.number_of_source.Goals as goal

pub returns-in_ok-number-in-None-clause-number : goal.returns-in_ok-number-in-None-clause-number
returns-in_ok-number-in-None-clause-number c = c.in_ok-number-in-None.ensures.number ∙ ap Some (past_source c.args.program.now c.args.numbers.now c.source.result c.source.ensures c.requires.all c.in-None.ensures)
