use Rattle.std.proofs.Common.{◌≡◌, ◌<◌, ℕ, zero, suc, List, arith, ap, sym, refl, ◌∙◌, get_or, Bool, true, false, subst, length}
use Rattle.orc_rules.specs.Timed.{IsIn}
use Rattle.orc_indexes.specs.Same.{weight}
use Rattle.orc_ledger_spec.specs.Records.{Records}
use Rattle.orc_ledger_spec.specs.Next.{numbers_of, members, is_empty}
use Rattle.orc_tables.specs.declared.records.Group.{Group}
use Rattle.orc_indexes.proofs.Weight.{in-got}
use Rattle.orc_ledger_spec.proofs.Scans.{none-so-far, none-at-all}
use Rattle.orc_ledger.proofs.ledger.Ledger.empty_group.Goals as goal

full : (k : ℕ) → (k ≡ 0 → ⊥) → is_empty k ≡ 0
full zero h = absurd (h refl)
full (suc k) h = refl

not_both : {b : Bool} → b ≡ true → b ≡ false → ⊥
not_both is off = cc (sym is ∙ off)

pub returns-then-is_empty : goal.returns-then-is_empty
returns-then-is_empty g c =
    let xs : List Group = c.deref-group-items.result.now in
    let lt : c.loop-group.group-index < length xs = c.loop-group-test.true in
    let groups : xs ≡ c.args.self.now.groups = c.deref-group-items.ensures.value ∙ c.items.ensures ∙ ap (λ (z : Records). z.groups) c.self.view_is in
    (c.is_empty.ensures.0 c.if-is_empty.true, (get_or xs c.loop-group.group-index _, (subst (IsIn (get_or xs c.loop-group.group-index _)) groups (in-got xs c.loop-group.group-index _ lt), refl)))

pub loop-group-preserved : goal.loop-group-preserved
loop-group-preserved g c =
    let s : Records = c.args.self.now in
    let w : Group → ℕ = λ h. is_empty (members (numbers_of s) s h.number) in
    let xs : List Group = c.deref-group-items.result.now in
    none-so-far w xs c.loop-group.group-index _ c.loop-group-test.true c.loop-group.invariant (full _ (λ e. not_both (c.is_empty.ensures.1 e) c.if-is_empty.false))

pub returns : goal.returns
returns g c =
    let s : Records = c.args.self.now in
    let w : Group → ℕ = λ h. is_empty (members (numbers_of s) s h.number) in
    let xs : List Group = c.deref-group-items.result.now in
    let groups : xs ≡ s.groups = c.deref-group-items.ensures.value ∙ c.items.ensures ∙ ap (λ (z : Records). z.groups) c.self.view_is in
    let none : weight w xs ≡ 0 = none-at-all w xs c.loop-group.group-index c.loop-group-test.false c.loop-group.invariant in
    omega (arith, none, ap (weight w) groups)
