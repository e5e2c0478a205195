use Rattle.std.proofs.Common.{◌+◌, ◌≡◌, ℕ, take, cond, ap, ◌∙◌, arith}
use Rattle.orc_indexes.specs.Same.{weight, but}
use Rattle.orc_tables.specs.Crowd.{is_listed}
use Rattle.orc_tables.specs.Inside.{stands_inside}
use Rattle.orc_tables.specs.Steps.{group_at}
use Rattle.orc_indexes.specs.Same.{is_this}
use Rattle.orc_tables.specs.OpenGroups.{GroupTable, size_of}
use Rattle.orc_tables.specs.PendingCalls.{is_numbered}
use Rattle.orc_tables.specs.declared.records.Call.{Call}
use Rattle.orc_tables.proofs.Listed.{one-further, all-through, listed-further, none-numbered, weight-same-in}
use Rattle.orc_tables.proofs.pending.Pending.drop_listed.Goals as goal
use Rattle.orc_tables.proofs.pending.Pending.drop_listed.Goals.{in-Some, in_default}

pub loop-number-preserved : goal.loop-number-preserved
loop-number-preserved c =
    let steps = c.args.steps.now.items in
    let numbers = c.args.numbers.now.items in
    let old = c.args.self.now.items in
    let I = c.loop-number.invariant in
    let i = c.loop-number.number-index in
    let further = one-further c.deref-number-items.result.now numbers i 0 c.deref-number-items.ensures.value c.loop-number-test.true in
    let rest : (w : Call → ℕ) → weight w c.take.new.self.items ≡ weight (but (λ (k : Call). is_listed (take (i + 1) numbers) k.number) w) old
    = λ w. c.take.ensures.taken w ∙ I.rest (but (is_numbered _) w) ∙ listed-further (take i numbers) (take (i + 1) numbers) _ further w old in
    elim c.match-take.branch [
      | in-Some w ↦
          let gone = w.in-Some.gone in
          let call = w.in-Some.ensures.call in
          record {
            made = c.take.ensures.made ∙ I.made;
            rest = rest;
            groups = ap (λ (z : GroupTable). z.items) w.groups-is ∙ w.leave.ensures.items ∙ I.groups;
            sizes = λ j le.
                let mine : Call → ℕ = λ k. is_this j (group_at steps k.step) in
                omega (arith, I.sizes j le, w.leave.ensures.sizes j, ap (is_this j) w.group_at.ensures, ap (λ (z : GroupTable). size_of z.sizes j) w.groups-is, c.take.ensures.one gone call.0 call.1 mine);
          }
      | in_default w ↦
          record {
            made = c.take.ensures.made ∙ I.made;
            rest = rest;
            groups = ap (λ (z : GroupTable). z.items) w.groups-is ∙ I.groups;
            sizes = λ j le.
                let mine : Call → ℕ = λ k. is_this j (group_at steps k.step) in
                omega (arith, I.sizes j le, ap (λ (z : GroupTable). size_of z.sizes j) w.groups-is, c.take.ensures.taken mine, none-numbered _ mine c.loop-number.self.items w.in_default.ensures.call);
          }
    ]

pub returns-clause-rest : goal.returns-clause-rest
returns-clause-rest c w =
    let numbers = c.args.numbers.now.items in
    let old = c.args.self.now.items in
    let done = all-through c.deref-number-items.result.now numbers c.loop-number.number-index c.deref-number-items.ensures.value (omega (arith, c.loop-number-test.false)) in
    c.loop-number.invariant.rest w
    ∙ ap (λ z. weight (but (λ (k : Call). is_listed z k.number) w) old) done
    ∙ weight-same-in (but (λ (k : Call). is_listed numbers k.number) w) (but (λ (k : Call). stands_inside c.args.cell c.args.steps.now.items k.step) w) old (λ k i. ap (λ b. cond b 0 (w k)) (c.requires.listed k i))
