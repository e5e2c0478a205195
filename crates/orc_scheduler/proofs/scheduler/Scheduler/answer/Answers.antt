use Rattle.orc_ledger_spec.proofs.Owed.{not-none}
use Rattle.orc_scheduler.proofs.scheduler.Scheduler.answer.Goals as goal

pub returns-in-Err-Gone-clause-stops : goal.returns-in-Err-Gone-clause-stops
returns-in-Err-Gone-clause-stops g c pends due program =
    let none = rw c.in-Err-Gone.field-0-is at c.in-Err-Gone.ensures.why in
    not-none c.args.self.now.ledger.calls c.args.call.number c.args.call pends.0 pends.1 none
