use Rattle.std.proofs.Common.{◌≡◌, ◌≤◌, ◌+◌, ◌-◌, length, get_or, ap, ◌∙◌, sym, [], List, Some, None, take, drop, arith, length-take}
use Rattle.orc_rules.specs.declared.limits.TheConstants.{MOST_ARGUMENTS}
use Rattle.std.specs.Prelude.{slice_get}
use Rattle.orc_rules.specs.declared.param.Operand.{Operand}
use Rattle.orc_graph.specs.declared.numbers.Range.{Range}
use Rattle.orc_graph.specs.Ranges.{cut}
use Rattle.orc_graph.proofs.Runs.{within_at, map_at, map_past}
use Rattle.orc_graph.proofs.lists.Lists.get.Goals as goal

cut-few : (xs : List Operand) (r : Range) → r.end ≤ r.start + MOST_ARGUMENTS → length (cut xs r) ≤ MOST_ARGUMENTS
cut-few xs r few = omega (arith, few, length-take (r.end - r.start) (drop r.start xs))

pub part-requires-clause-order : goal.part-requires-clause-order
part-requires-clause-order c =
    let there : slice_get c.self.inside.ranges.items c.args.number ≡ Some c.in-Some.range = sym c.in-Some.ensures in
    (within_at _ _ _ _ c.self.invariant there).0

pub part-requires-clause-within : goal.part-requires-clause-within
part-requires-clause-within c =
    let there : slice_get c.self.inside.ranges.items c.args.number ≡ Some c.in-Some.range = sym c.in-Some.ensures in
    rw c.deref.ensures.value ((within_at _ _ _ _ c.self.invariant there).1)

pub returns-in-Some-clause-value : goal.returns-in-Some-clause-value
returns-in-Some-clause-value c =
    let there : slice_get c.self.inside.ranges.items c.args.number ≡ Some c.in-Some.range = sym c.in-Some.ensures in
    c.part.ensures ∙ (ap (λ (xs : List Operand). cut xs c.in-Some.range) c.deref.ensures.value ∙
    (sym (map_at (cut c.self.inside.operands.items) c.self.inside.ranges.items c.args.number c.in-Some.range [] there) ∙
    ap (λ (ls : List (List Operand)). get_or ls c.args.number []) c.self.view_is))

pub returns-in-Some-clause-len : goal.returns-in-Some-clause-len
returns-in-Some-clause-len c =
    let there : slice_get c.self.inside.ranges.items c.args.number ≡ Some c.in-Some.range = sym c.in-Some.ensures in
    rw c.part.ensures (cut-few _ c.in-Some.range ((within_at _ _ _ _ c.self.invariant there).2))

pub returns-in-None-clause-value : goal.returns-in-None-clause-value
returns-in-None-clause-value c =
    let none : slice_get c.self.inside.ranges.items c.args.number ≡ None = sym c.in-None.ensures in
    sym (map_past (cut c.self.inside.operands.items) c.self.inside.ranges.items c.args.number [] none) ∙ ap (λ (ls : List (List Operand)). get_or ls c.args.number []) c.self.view_is
