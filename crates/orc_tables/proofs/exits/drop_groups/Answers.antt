use Rattle.std.proofs.Common.{◌≡◌, ◌≤◌, ◌<◌, ◌+◌, ℕ, Bool, true, cond, length, Some, sym, ap, ◌∙◌, subst, arith}
use Rattle.std.specs.Prelude.{slice_get}
use Rattle.orc_indexes.specs.Same.{weight, but}
use Rattle.orc_tables.specs.Steps.{group_at}
use Rattle.orc_indexes.specs.Same.{is_this}
use Rattle.orc_tables.specs.Inside.{side_inside}
use Rattle.orc_tables.specs.OpenGroups.{size_of}
use Rattle.orc_tables.specs.declared.records.Group.{Group}
use Rattle.orc_indexes.proofs.Weight.{weight-length}
use Rattle.orc_tables.proofs.Placed.{same_some, none-of-all}
use Rattle.orc_tables.proofs.exits.drop_groups.Goals as goal

pub loop-place-smaller-then-is_side_inside : goal.loop-place-smaller-then-is_side_inside
loop-place-smaller-then-is_side_inside c =
    let now = c.loop-place.groups.items in
    let next = c.remove.new.self.items in
    let there : c.loop-place.place < length now = omega (arith, c.loop-place-test.true, c.len.ensures) in
    let fewer : length next + 1 ≡ length now = omega (arith, c.remove.ensures.rest (λ g. 1), weight-length next, weight-length now) in
    omega (arith, there, fewer, ap length c.leave.ensures.items)

pub loop-place-preserved-then-is_side_inside : goal.loop-place-preserved-then-is_side_inside
loop-place-preserved-then-is_side_inside c =
    let P : Group → Bool = λ g. side_inside c.args.cell c.args.steps.now.items g.outer g.side in
    let I = c.loop-place.invariant in
    let group = c.at-group.result in
    let gone = c.remove.result in
    let same : group ≡ gone = same_some group gone (sym c.at-group.ensures ∙ c.remove.ensures.is) in
    let goes : P gone ≡ true = ap P (sym same) ∙ sym c.is_side_inside.ensures ∙ c.if-is_side_inside.true in
    record {
      before = λ k g lt h. I.before k g lt (c.remove.ensures.before k g lt (subst (λ z. slice_get z k ≡ Some g) c.leave.ensures.items h));
      rest = λ w.
          let mine : but P w gone ≡ 0 = ap (λ b. cond b 0 (w gone)) goes in
          omega (arith, ap (weight (but P w)) c.leave.ensures.items, c.remove.ensures.rest (but P w), mine, I.rest w);
      sizes = λ i le.
          let w : Group → ℕ = λ g. is_this i (group_at c.args.steps.now.items g.outer) in
          omega (arith, I.sizes i le, c.leave.ensures.sizes i, ap (λ z. size_of z i) c.remove.ensures.sizes, ap (is_this i) c.group_at.ensures, ap w same, ap (weight w) c.leave.ensures.items, c.remove.ensures.rest w);
    }

pub returns-clause-rest : goal.returns-clause-rest
returns-clause-rest c = λ w.
    let P : Group → Bool = λ g. side_inside c.args.cell c.args.steps.now.items g.outer g.side in
    let le : length c.loop-place.groups.items ≤ c.loop-place.place = omega (arith, c.loop-place-test.false, c.len.ensures) in
    none-of-all P c.loop-place.groups.items c.loop-place.place le c.loop-place.invariant.before w ∙ c.loop-place.invariant.rest w
