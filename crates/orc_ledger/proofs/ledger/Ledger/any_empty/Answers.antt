use Rattle.std.proofs.Common.{◌≡◌, ℕ, arith, ap, sym, ◌∙◌}
use Rattle.orc_indexes.proofs.Weight.{weight-in}
use Rattle.orc_tables.specs.declared.records.Group.{Group}
use Rattle.orc_ledger_spec.specs.Records.{Records}
use Rattle.orc_ledger_spec.specs.Next.{numbers_of, members, is_empty}
use Rattle.orc_ledger_spec.proofs.Scans.{the-found}
use Rattle.orc_ledger.proofs.ledger.Ledger.any_empty.Goals as goal

-- the group that is found is counted
pub returns-else-is_empty-clause-some : goal.returns-else-is_empty-clause-some
returns-else-is_empty-clause-some g c e =
    let s : Records = c.args.self.now in
    let w : Group → ℕ = λ h. is_empty (members (numbers_of s) s h.number) in
    let f = the-found _ _ c.empty_group.result c.empty_group.ensures (sym c.is_some.ensures ∙ e) in
    let one : w f.1.1.0 ≡ 1 = ap (λ n. is_empty (members (numbers_of s) s n)) f.1.1.1.1 ∙ ap is_empty f.1.0 in
    omega (arith, weight-in w s.groups f.1.1.0 f.1.1.1.0, one)
