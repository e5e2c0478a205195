use Rattle.std.proofs.Common.{◌+◌, ℕ, ap, sym, subst, refl, ◌∙◌, arith}
use Rattle.orc_indexes.specs.Same.{weight}
use Rattle.orc_tables.specs.Tokens.{Slots, live, StayParked}
use Rattle.orc_tables.specs.Steps.{group_at}
use Rattle.orc_indexes.specs.Same.{is_this}
use Rattle.orc_tables.specs.OpenGroups.{GroupTable, size_of, tokens_in}
use Rattle.orc_tables.specs.declared.records.Token.{Token}
use Rattle.orc_tables.proofs.Parked.{stay-on}
use Rattle.orc_tables.proofs.Slots.{removed}
use Rattle.orc_tables.proofs.Drained.{IsDrained, drained-none, drained-held, drained-gone, drained-kept, drained-all}
use Rattle.orc_tables.proofs.exits.drop_tokens.Goals as goal
use Rattle.orc_tables.proofs.exits.drop_tokens.Goals.{then-is_held_inside, else-is_held_inside}

pub loop-slot-init : goal.loop-slot-init
loop-slot-init c = record { drained = drained-none c.args.cell c.args.steps.now.items c.args.tokens.now.items c.slot_count-count.result (sym c.slot_count-count.ensures); groups = refl; sizes = λ i le. refl; parked = λ k t h. (h, λ d i. i) }

pub at-token-requires : goal.at-token-requires
at-token-requires c = omega (arith, c.loop-slot.invariant.drained.len, c.loop-slot-test.true)

pub remove-requires : goal.remove-requires
remove-requires c = (c.at-token.result, drained-held c.args.cell c.args.steps.now.items c.loop-slot.tokens.items c.loop-slot.slot c.at-token.result c.at-token.ensures (sym c.is_held_inside.ensures ∙ c.if-is_held_inside.true))

pub loop-slot-preserved : goal.loop-slot-preserved
loop-slot-preserved c =
    let cell = c.args.cell in
    let steps = c.args.steps.now.items in
    let old = c.args.tokens.now.items in
    let now = c.loop-slot.tokens.items in
    let token = c.at-token.result in
    let count = c.slot_count-count.result in
    let I = c.loop-slot.invariant in
    elim c.if-is_held_inside.branch [
      | then-is_held_inside w ↦
          let gone = w.remove.ensures.items in
          let inn = sym c.is_held_inside.ensures ∙ w.if-is_held_inside.true in
          record {
            drained = subst (λ (z : Slots). IsDrained cell steps old z.items (c.loop-slot.slot + 1) count) (sym w.tokens-is) (drained-gone cell steps old now _ c.loop-slot.slot count token gone.0 I.drained c.at-token.ensures inn gone.1 gone.2);
            groups = ap (λ (z : GroupTable). z.items) w.groups-is ∙ w.leave.ensures.items ∙ I.groups;
            sizes = λ i le.
                let mine : Token → ℕ = λ t. is_this i (group_at steps t.step) in
                omega (
                  arith,
                  I.sizes i le,
                  w.leave.ensures.sizes i,
                  ap (is_this i) w.group_at.ensures,
                  ap (λ (z : GroupTable). size_of z.sizes i) w.groups-is,
                  ap (λ (z : Slots). weight mine (live z.items)) w.tokens-is,
                  ap (λ z. weight mine (live z)) gone.2,
                  removed mine now c.loop-slot.slot token gone.0 (drained-held cell steps now c.loop-slot.slot token c.at-token.ensures inn) gone.1,
                );
            parked = subst (λ (z : Slots). StayParked c.args.tokens.now z) (sym w.tokens-is) (stay-on c.args.tokens.now c.loop-slot.tokens w.remove.new.self I.parked w.remove.ensures.parked);
          }
      | else-is_held_inside w ↦
          record {
            drained = subst (λ (z : Slots). IsDrained cell steps old z.items (c.loop-slot.slot + 1) count) (sym w.tokens-is) (drained-kept cell steps old now c.loop-slot.slot count token I.drained c.at-token.ensures (sym c.is_held_inside.ensures ∙ w.if-is_held_inside.false));
            groups = ap (λ (z : GroupTable). z.items) w.groups-is ∙ I.groups;
            sizes = λ i le. omega (arith, I.sizes i le, ap (λ (z : GroupTable). size_of z.sizes i) w.groups-is, ap (λ (z : Slots). tokens_in steps (live z.items) i) w.tokens-is);
            parked = subst (λ (z : Slots). StayParked c.args.tokens.now z) (sym w.tokens-is) I.parked;
          }
    ]

pub returns-clause-rest : goal.returns-clause-rest
returns-clause-rest c w = drained-all c.args.cell c.args.steps.now.items c.args.tokens.now.items c.loop-slot.tokens.items c.loop-slot.slot c.slot_count-count.result c.loop-slot.invariant.drained c.loop-slot-test.false w
