use Rattle.orc_ledger_spec.proofs.Spoken.{is-right}
use Rattle.orc_ledger.proofs.ledger.Ledger.next.Goals as goal

pub returns-clause-right : goal.returns-clause-right
returns-clause-right g c =
    let said = rw (← c.self.view_is) at c.find_next.ensures.is in
    rw (← c.self.view_is) (is-right g.P.Run.listing g.P.Run.sites _ _ _ c.self.invariant.kept c.find_next.result said)
