use Rattle.orc_ledger_spec.proofs.Brought.{full-is-crowded}
use Rattle.orc_ledger.proofs.ledger.Ledger.full_is_crowded.Goals as goal

pub returns : goal.returns
returns g c = rw (← c.self.view_is) (full-is-crowded _ c.self.invariant.kept.brought g.P.Run.listing)
