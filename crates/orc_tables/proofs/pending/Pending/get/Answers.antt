use Rattle.std.proofs.Common.{subst, ap, ◌∙◌, sym}
use Rattle.orc_rules.specs.Timed.{IsIn}
use Rattle.orc_indexes.specs.Same.{weight}
use Rattle.orc_tables.specs.PendingCalls.{has_number}
use Rattle.orc_tables.specs.PendingCalls.{Pendings}
use Rattle.orc_tables.proofs.Placed.{none-there, got-in}
use Rattle.orc_tables.proofs.pending.Pending.get.Goals as goal

pub returns-in-None : goal.returns-in-None
returns-in-None c =
    let b = c.self.inside in
    ap (λ (p : Pendings). weight (has_number c.args.number) p.items) (sym c.self.view_is) ∙ none-there c.args.number b.items.items (c.in-None.ensures.none c.self.invariant.0)

pub returns-in-Some : goal.returns-in-Some
returns-in-Some c =
    let b = c.self.inside in
    (subst (λ (p : Pendings). IsIn c.in-Some.spot.call p.items) c.self.view_is (got-in b.items.items c.in-Some.spot.place c.in-Some.spot.call c.in-Some.ensures.found.0), c.in-Some.ensures.found.1)
