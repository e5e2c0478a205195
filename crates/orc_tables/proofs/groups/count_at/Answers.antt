use Rattle.std.proofs.Common.{◌≡◌, ℕ, zero, suc, List, refl, sym, arith}
use Rattle.orc_indexes.specs.Same.{weight}
use Rattle.orc_tables.specs.OpenGroups.{is_named}
use Rattle.orc_tables.specs.declared.records.Group.{Group}
use Rattle.orc_indexes.proofs.Weight.{weight-in, this_is, some-in, this_one}
use Rattle.orc_tables.proofs.Placed.{got-in, in-got_at}
use Rattle.orc_tables.proofs.groups.count_at.Goals as goal

pub returns-in-Some : goal.returns-in-Some
returns-in-Some c =
    let gs : List Group = c.args.items.now.items in
    let n = c.args.number in
    let d = c.in-Some.ensures.found in
    omega (arith, weight-in (is_named n) gs d.0 (got-in gs c.in-Some.field-0 d.0 d.1), this_is n (Group.number d.0) (sym d.2), c.requires.once)

pub returns-in-None : goal.returns-in-None
returns-in-None c = go (weight (is_named c.args.number) c.args.items.now.items) refl
  where
    go : (k : ℕ) → weight (is_named c.args.number) c.args.items.now.items ≡ k → 0 ≡ k
    go zero e = refl
    go (suc k) e =
        let d = some-in (is_named c.args.number) c.args.items.now.items (omega (arith, e)) in
        let at = in-got_at c.args.items.now.items d.0 d.1 in
        absurd (c.in-None.ensures.found at.0 d.0 at.1 (sym (this_one c.args.number (Group.number d.0) d.2)))
