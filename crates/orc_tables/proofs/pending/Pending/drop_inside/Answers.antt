use Rattle.std.proofs.Common.{◌∙◌, ap}
use Rattle.orc_indexes.specs.Same.{weight, but}
use Rattle.orc_tables.specs.Inside.{stands_inside}
use Rattle.orc_tables.specs.PendingCalls.{Pendings}
use Rattle.orc_tables.specs.declared.records.Call.{Call}
use Rattle.orc_tables.proofs.pending.Pending.drop_inside.Goals as goal

pub returns-clause-rest : goal.returns-clause-rest
returns-clause-rest c = λ w. c.drop_inside.ensures.rest w ∙ ap (λ (p : Pendings). weight (but (λ (k : Call). stands_inside c.args.cell c.args.steps.now.items k.step) w) p.items) c.self.view_is
