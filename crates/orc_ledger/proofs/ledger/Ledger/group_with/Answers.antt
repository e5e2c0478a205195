use Rattle.orc_ledger.proofs.ledger.Ledger.group_with.Goals as goal

pub returns : goal.returns
returns g c = rw (← c.self.view_is) c.get.ensures
