use Rattle.std.proofs.Common.{◌+◌, ◌≤◌, ℕ, take, cond, ap, sym, ◌∙◌, arith}
use Rattle.orc_indexes.specs.Same.{weight, but}
use Rattle.orc_tables.specs.Crowd.{is_listed}
use Rattle.orc_tables.specs.Inside.{side_inside}
use Rattle.orc_tables.specs.Steps.{group_at}
use Rattle.orc_indexes.specs.Same.{is_this}
use Rattle.orc_tables.specs.OpenGroups.{GroupTable, size_of}
use Rattle.orc_tables.specs.declared.records.Group.{Group}
use Rattle.orc_indexes.proofs.Weight.{weight-but}
use Rattle.orc_tables.proofs.Listed.{one-further, all-through, named-further, named-gone, none-named, weight-same-in}
use Rattle.orc_tables.proofs.exits.drop_numbered.Goals as goal
use Rattle.orc_tables.proofs.exits.drop_numbered.Goals.{in-Some, in_default}

pub loop-number-preserved : goal.loop-number-preserved
loop-number-preserved c =
    let steps = c.args.steps.now.items in
    let numbers = c.args.numbers.now.items in
    let old = c.args.groups.now.items in
    let now = c.loop-number.groups.items in
    let I = c.loop-number.invariant in
    let i = c.loop-number.number-index in
    let further = one-further c.deref-number-items.result.now numbers i 0 c.deref-number-items.ensures.value c.loop-number-test.true in
    let once : (j : ℕ) → weight (λ (g : Group). is_this j g.number) now ≤ 1 = λ j. omega (arith, I.rest (λ (g : Group). is_this j g.number), weight-but (λ (g : Group). is_listed (take i numbers) g.number) (λ (g : Group). is_this j g.number) old, c.requires.once j) in
    elim c.match-take.branch [
      | in-Some w ↦
          let gone = w.in-Some.gone in
          let group = w.in-Some.ensures.group in
          let left = c.take.ensures.one gone group.0 group.1 in
          record {
            rest = λ v. ap (λ (z : GroupTable). weight v z.items) w.groups-is ∙ ap (weight v) w.leave.ensures.items ∙ named-gone _ now c.take.new.self.items gone group.0 group.1 (once _) left v ∙ I.rest _ ∙ named-further (take i numbers) (take (i + 1) numbers) _ further v old;
            sizes = λ j le.
                let mine : Group → ℕ = λ g. is_this j (group_at steps g.outer) in
                omega (arith, I.sizes j le, w.leave.ensures.sizes j, ap (λ z. size_of z j) c.take.ensures.sizes, ap (is_this j) w.group_at.ensures, ap (λ (z : GroupTable). size_of z.sizes j) w.groups-is, ap (λ (z : GroupTable). weight mine z.items) w.groups-is, ap (weight mine) w.leave.ensures.items, left mine);
          }
      | in_default w ↦
          record {
            rest = λ v. ap (λ (z : GroupTable). weight v z.items) w.groups-is ∙ ap (weight v) w.in_default.ensures.none ∙ sym (none-named _ v now w.in_default.ensures.group) ∙ I.rest _ ∙ named-further (take i numbers) (take (i + 1) numbers) _ further v old;
            sizes = λ j le.
                let mine : Group → ℕ = λ g. is_this j (group_at steps g.outer) in
                omega (arith, I.sizes j le, ap (λ z. size_of z j) c.take.ensures.sizes, ap (λ (z : GroupTable). size_of z.sizes j) w.groups-is, ap (λ (z : GroupTable). weight mine z.items) w.groups-is, ap (weight mine) w.in_default.ensures.none);
          }
    ]

pub returns-clause-rest : goal.returns-clause-rest
returns-clause-rest c w =
    let numbers = c.args.numbers.now.items in
    let old = c.args.groups.now.items in
    let steps = c.args.steps.now.items in
    let done = all-through c.deref-number-items.result.now numbers c.loop-number.number-index c.deref-number-items.ensures.value (omega (arith, c.loop-number-test.false)) in
    c.loop-number.invariant.rest w
    ∙ ap (λ z. weight (but (λ (g : Group). is_listed z g.number) w) old) done
    ∙ weight-same-in (but (λ (g : Group). is_listed numbers g.number) w) (but (λ (g : Group). side_inside c.args.cell steps g.outer g.side) w) old (λ g i. ap (λ b. cond b 0 (w g)) (c.requires.listed g i))
