use Rattle.orc_ledger_spec.proofs.Joint.{nothing-lost}
use Rattle.orc_ledger.proofs.laws.offered.Goals as goal

pub returns : goal.returns
returns g c = rw (← c.ledger.view_is) (nothing-lost g.P.Run.listing g.P.Run.sites _ _ _ c.ledger.invariant.kept)
