use Rattle.std.proofs.Common.{sym, subst}
use Rattle.orc_ledger_spec.specs.Spoken.{IsRight}
use Rattle.orc_ledger_spec.specs.declared.results.Next.TheVariants.{Ticks}
use Rattle.orc_replay.proofs.ledger.replay.Replay.tick.Goals as goal

pub tick-requires : goal.tick-requires
tick-requires g c =
    let whole = c.is_whole.ensures in
    let right = subst (λ z. IsRight g.P.Run.listing g.P.Run.sites z (Ticks c.in-Ticks.time)) (sym c.next-next.ensures.same) c.in-Ticks.ensures.right in
    (whole.place, whole.leads, right whole.place whole.leads)
