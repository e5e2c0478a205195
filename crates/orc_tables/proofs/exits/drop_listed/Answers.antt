use Rattle.std.proofs.Common.{◌+◌, ℕ, take, ap, sym, subst, refl, ◌∙◌, arith}
use Rattle.orc_indexes.specs.Same.{weight}
use Rattle.orc_tables.specs.Tokens.{Slots, live, StayParked}
use Rattle.orc_tables.specs.Steps.{group_at}
use Rattle.orc_indexes.specs.Same.{is_this}
use Rattle.orc_tables.specs.OpenGroups.{GroupTable, size_of, tokens_in}
use Rattle.orc_tables.specs.declared.records.Token.{Token}
use Rattle.orc_tables.proofs.Slots.{removed}
use Rattle.orc_tables.proofs.Parked.{stay-on}
use Rattle.orc_tables.proofs.Crowded.{in-listed}
use Rattle.orc_tables.proofs.Listed.{IsThinned, one-further, all-through, through-in, thinned-none, thinned-kept, thinned-gone, thinned-all}
use Rattle.orc_tables.proofs.exits.drop_listed.Goals as goal
use Rattle.orc_tables.proofs.exits.drop_listed.Goals.{in-Some, in_default}

pub loop-slot-init : goal.loop-slot-init
loop-slot-init c = record { thinned = thinned-none c.args.cell c.args.steps.now.items c.args.tokens.now.items c.args.slots.now.items; groups = refl; sizes = λ i le. refl; parked = λ k t h. (h, λ d i. i) }

pub loop-slot-preserved : goal.loop-slot-preserved
loop-slot-preserved c =
    let cell = c.args.cell in
    let steps = c.args.steps.now.items in
    let slots = c.args.slots.now.items in
    let old = c.args.tokens.now.items in
    let now = c.loop-slot.tokens.items in
    let I = c.loop-slot.invariant in
    let i = c.loop-slot.slot-index in
    let further = one-further c.deref-slot-items.result.now slots i 0 c.deref-slot-items.ensures.value c.loop-slot-test.true in
    elim c.match-held.branch [
      | in-Some w ↦
          let token = w.in-Some.token in
          let held = w.in-Some.ensures.held in
          let gone = w.remove.ensures.items in
          let inn = sym (c.requires.listed _ token (I.thinned.kept _ token held)) ∙ in-listed slots _ (through-in c.deref-slot-items.result.now slots i 0 c.deref-slot-items.ensures.value c.loop-slot-test.true) in
          record {
            thinned = subst (λ (z : Slots). IsThinned cell steps old z.items (take (i + 1) slots)) (sym w.tokens-is) (thinned-gone cell steps old now (take i slots) (take (i + 1) slots) _ further I.thinned w.remove.new.self.items token gone.0 held gone.1 gone.2 inn);
            groups = ap (λ (z : GroupTable). z.items) w.groups-is ∙ w.leave.ensures.items ∙ I.groups;
            sizes = λ j le.
                let mine : Token → ℕ = λ t. is_this j (group_at steps t.step) in
                omega (
                  arith,
                  I.sizes j le,
                  w.leave.ensures.sizes j,
                  ap (is_this j) w.group_at.ensures,
                  ap (λ (z : GroupTable). size_of z.sizes j) w.groups-is,
                  ap (λ (z : Slots). weight mine (live z.items)) w.tokens-is,
                  ap (λ z. weight mine (live z)) gone.2,
                  removed mine now _ token gone.0 held gone.1,
                );
            parked = subst (λ (z : Slots). StayParked c.args.tokens.now z) (sym w.tokens-is) (stay-on c.args.tokens.now c.loop-slot.tokens w.remove.new.self I.parked w.remove.ensures.parked);
          }
      | in_default w ↦
          record {
            thinned = subst (λ (z : Slots). IsThinned cell steps old z.items (take (i + 1) slots)) (sym w.tokens-is) (thinned-kept cell steps old now (take i slots) (take (i + 1) slots) _ further I.thinned w.in_default.ensures.none);
            groups = ap (λ (z : GroupTable). z.items) w.groups-is ∙ I.groups;
            sizes = λ j le. omega (arith, I.sizes j le, ap (λ (z : GroupTable). size_of z.sizes j) w.groups-is, ap (λ (z : Slots). tokens_in steps (live z.items) j) w.tokens-is);
            parked = subst (λ (z : Slots). StayParked c.args.tokens.now z) (sym w.tokens-is) I.parked;
          }
    ]

pub returns-clause-rest : goal.returns-clause-rest
returns-clause-rest c w =
    let slots = c.args.slots.now.items in
    let done = all-through c.deref-slot-items.result.now slots c.loop-slot.slot-index c.deref-slot-items.ensures.value (omega (arith, c.loop-slot-test.false)) in
    thinned-all c.args.cell c.args.steps.now.items c.args.tokens.now.items c.loop-slot.tokens.items slots (subst (λ z. IsThinned c.args.cell c.args.steps.now.items c.args.tokens.now.items c.loop-slot.tokens.items z) done c.loop-slot.invariant.thinned) c.requires.listed w
