use Rattle.orc_ledger.proofs.laws.stands.Goals as goal

pub returns : goal.returns
returns g c = rw (← c.ledger.view_is) (record { lawful = c.ledger.invariant.kept.lawful; grouped = c.ledger.invariant.kept.grouped })
