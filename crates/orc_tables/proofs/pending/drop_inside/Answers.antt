use Rattle.std.proofs.Common.{◌≡◌, ◌≤◌, ◌<◌, Bool, true, false, cond, length, Some, sym, ap, ◌∙◌, arith, ⊎_elim}
use Rattle.std.specs.Prelude.{slice_get}
use Rattle.orc_indexes.specs.Same.{but}
use Rattle.orc_tables.specs.Steps.{group_at}
use Rattle.orc_indexes.specs.Same.{is_this}
use Rattle.orc_tables.specs.Inside.{stands_inside}
use Rattle.orc_tables.specs.declared.records.Call.{Call}
use Rattle.orc_tables.proofs.Placed.{or-got, same_some, none-before, none-of-all}
use Rattle.orc_tables.proofs.pending.drop_inside.Goals as goal

pub loop-i-preserved : goal.loop-i-preserved
loop-i-preserved c =
    let P : Call → Bool = λ k. stands_inside c.args.cell c.args.steps.now.items k.step in
    let I = c.loop-i.invariant in
    let items = c.loop-i.items.items in
    let call = c.index.result.now in
    let there : c.loop-i.i < length items = omega (arith, c.loop-i-test.true, c.len.ensures, c.loop-i.items.ok.0) in
    let is : slice_get items c.loop-i.i ≡ Some call = or-got items c.loop-i.i call there ∙ ap Some (sym c.index.ensures) in
    let off : P call ≡ false = sym c.is_inside.ensures ∙ c.if-is_inside.false in
    record { placed = I.placed; noted = I.noted; made = I.made; before = none-before P items c.loop-i.i call I.before is off; rest = I.rest; groups = I.groups; sizes = I.sizes }

pub loop-i-preserved-then-is_inside : goal.loop-i-preserved-then-is_inside
loop-i-preserved-then-is_inside c =
    let P : Call → Bool = λ k. stands_inside c.args.cell c.args.steps.now.items k.step in
    let I = c.loop-i.invariant in
    let items = c.loop-i.items.items in
    let call = c.index.result.now in
    let gone = c.remove_at-gone.result in
    let there : c.loop-i.i < length items = omega (arith, c.loop-i-test.true, c.len.ensures, c.loop-i.items.ok.0) in
    let same : call ≡ gone = same_some call gone (ap Some c.index.ensures ∙ sym (or-got items c.loop-i.i call there) ∙ c.remove_at-gone.ensures.call) in
    let goes : P gone ≡ true = ap P (sym same) ∙ sym c.is_inside.ensures ∙ c.if-is_inside.true in
    record {
      placed = c.remove_at-gone.ensures.placed;
      noted = λ e j t due. ⊎_elim (λ a. a) (λ b. absurd ((c.remove_at-gone.ensures.others e j).1 b)) (c.forget.ensures t e.number (I.noted e (c.remove_at-gone.ensures.others e j).0 t due));
      made = c.remove_at-gone.ensures.made ∙ I.made;
      before = λ k e lt h. I.before k e lt (c.remove_at-gone.ensures.before k e lt h);
      rest = λ w.
          let mine : but P w gone ≡ 0 = ap (λ b. cond b 0 (w gone)) goes in
          omega (arith, c.remove_at-gone.ensures.rest (but P w), mine, I.rest w);
      groups = c.leave.ensures.items ∙ I.groups;
      sizes = λ t le. omega (arith, I.sizes t le, c.leave.ensures.sizes t, ap (is_this t) c.group_at.ensures, c.remove_at-gone.ensures.rest (λ (k : Call). is_this t (group_at c.args.steps.now.items k.step)));
    }

pub returns-clause-rest : goal.returns-clause-rest
returns-clause-rest c = λ w.
    let P : Call → Bool = λ k. stands_inside c.args.cell c.args.steps.now.items k.step in
    let le : length c.loop-i.items.items ≤ c.loop-i.i = omega (arith, c.loop-i-test.false, c.len.ensures, c.loop-i.items.ok.0) in
    none-of-all P c.loop-i.items.items c.loop-i.i le c.loop-i.invariant.before w ∙ c.loop-i.invariant.rest w
