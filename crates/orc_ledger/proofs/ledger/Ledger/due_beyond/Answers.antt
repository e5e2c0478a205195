use Rattle.orc_ledger.proofs.ledger.Ledger.due_beyond.Goals as goal

pub returns-clause-due : goal.returns-clause-due
returns-clause-due g c = rw (← c.self.view_is) c.due_beyond.ensures.due
