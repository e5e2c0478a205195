use Rattle.std.proofs.Common.{◌≡◌, refl, sym, subst, ◌∙◌, ap}
use Rattle.orc_rules.specs.Timed.{IsIn}
use Rattle.orc_indexes.specs.Same.{weight}
use Rattle.orc_tables.specs.PendingCalls.{has_number, IsLeastBeyond}
use Rattle.orc_ledger_spec.specs.Records.{Records}
use Rattle.orc_ledger_spec.specs.Kept.{Kept}
use Rattle.orc_ledger_spec.proofs.Owed.{none-owed, owed, owed-so, not-none}
use Rattle.orc_ledger.proofs.ledger.Ledger.due.Goals as goal

pub returns-in_default-clause-due : goal.returns-in_default-clause-due
returns-in_default-clause-due g c =
    let l = g.P.Run.listing in
    let sites = g.P.Run.sites in
    let K = subst (λ (z : Records). Kept l sites c.self.inside.counts c.self.inside.groups.sizes z) c.self.view_is c.self.invariant.kept in
    λ call t i due le. none-owed l sites c.self.inside.counts c.self.inside.groups.sizes c.args.self.now K c.in_default.ensures.due call t i due le

pub unreachable-requires : goal.unreachable-requires
unreachable-requires g c =
    let due = c.in-Some.ensures.due.0 in
    let none : weight (has_number c.in-Some.number) c.args.self.now.calls ≡ 0 = ap (λ (z : Records). weight (has_number c.in-Some.number) z.calls) (sym c.in-Some.ensures.same) ∙ c.in_default-pending.ensures in
    not-none c.args.self.now.calls c.in-Some.number due.0 due.1 due.2 none

pub unreachable-requires-in_default-found : goal.unreachable-requires-in_default-found
unreachable-requires-in_default-found g c =
    let l = g.P.Run.listing in
    let sites = g.P.Run.sites in
    let K = subst (λ (z : Records). Kept l sites c.self.inside.counts c.self.inside.groups.sizes z) c.self.view_is c.self.invariant.kept in
    let its : IsIn c.in-Some-pending.call c.args.self.now.calls = subst (λ (z : Records). IsIn c.in-Some-pending.call z.calls) c.in-Some.ensures.same c.in-Some-pending.ensures.0 in
    let o = owed l sites c.self.inside.counts c.self.inside.groups.sizes c.args.self.now K c.in-Some.number c.in-Some.ensures.due.0 c.in-Some-pending.call its c.in-Some-pending.ensures.1 in
    cc (o.2, c.in_default-found.is)

pub returns-clause-due : goal.returns-clause-due
returns-clause-due g c =
    let l = g.P.Run.listing in
    let sites = g.P.Run.sites in
    let K = subst (λ (z : Records). Kept l sites c.self.inside.counts c.self.inside.groups.sizes z) c.self.view_is c.self.invariant.kept in
    let its : IsIn c.in-Some-pending.call c.args.self.now.calls = subst (λ (z : Records). IsIn c.in-Some-pending.call z.calls) c.in-Some.ensures.same c.in-Some-pending.ensures.0 in
    ((its, refl), owed-so l sites c.self.inside.counts c.self.inside.groups.sizes c.args.self.now K c.in-Some.number c.in-Some.ensures.due.0 c.in-Some-pending.call its c.in-Some-pending.ensures.1 c.in-After.answer _ c.in-After.is, subst (λ n. IsLeastBeyond c.args.self.now.calls 0 c.args.self.now.now n) (sym c.in-Some-pending.ensures.1) c.in-Some.ensures.due)
