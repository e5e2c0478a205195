use Rattle.orc_ledger_spec.proofs.Fitting.{call-fits}
use Rattle.orc_tables.proofs.Slots.{live-in}
use Rattle.orc_ledger.proofs.laws.calls_fit.Goals as goal

pub returns : goal.returns
returns g c =
    let b = c.ledger.inside in
    rw (← c.ledger.view_is) (λ program slot t s' held word misfits. call-fits g.P.Run.listing g.P.Run.sites _ c.ledger.invariant.kept.lawful program t (live-in b.tokens.items slot t held) misfits.scope misfits.definition misfits.list misfits.at word misfits.undone)
