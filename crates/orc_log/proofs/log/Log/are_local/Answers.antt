use Rattle.std.proofs.Common.{subst}
use Rattle.orc_subrun.specs.Moved.{AreLocal}
use Rattle.orc_log.proofs.Logs.{local-more}
use Rattle.orc_log.proofs.log.Log.are_local.Goals as goal

pub returns-then-self : goal.returns-then-self
returns-then-self g c = λ yes.
    let b = c.self.inside in
    let held : AreLocal g.P.Run.sites b.held.entries = subst (λ z. AreLocal z b.held.entries) c.requires (c.are_local.ensures yes) in
    rw (← c.self.view_is) (local-more g.P.Run.sites b.past.items b.held.entries (c.self.invariant.1.local c.if-self.true) held)
