use Rattle.std.proofs.Common.{ℕ, ◌≡◌, [], ◌∷◌, ◌++◌, length, ap, ◌∙◌, arith}
use Rattle.std.specs.Prelude.{slice_get, slice_set}
use Rattle.orc_indexes.specs.Same.{weight}
use Rattle.orc_tables.specs.Tokens.{live, IsHeld}
use Rattle.orc_tables.specs.declared.records.Token.{Token}
use Rattle.orc_tables.proofs.Parked.{held-more, stay-added}
use Rattle.orc_indexes.proofs.Lists.{count-weight, set-there, set-elsewhere, got-end, got-more}
use Rattle.orc_tables.proofs.Slots.{live-short, filled, pushed, not-there}
use Rattle.orc_tables.proofs.tokens.Tokens.add.Goals as goal

pub overflow_add-self : goal.overflow_add-self
overflow_add-self c =
    let b = c.self.inside in
    omega (arith, c.self.invariant.0, live-short b.slots.items, c.len-end.ensures)

pub invariant_of-self : goal.invariant_of-self
invariant_of-self c =
    let b = c.self.inside in
    let others : (k : ℕ) (t : Token) → IsHeld b.slots.items k t → IsHeld c.put.new.slots.items k t = λ k t i. (ap (λ z. slice_get z k) c.put.ensures.items ∙ set-elsewhere b.slots.items c.in-Some.slot k c.args.token (not-there b.slots.items c.in-Some.slot k c.in-Some.ensures.0 t c.in-Some.ensures.1 c.in-Some.ensures.2 i) ∙ i.0, i.1) in
    (omega (arith, c.self.invariant.0, ap (λ z. length (live z)) c.put.ensures.items, count-weight (live (slice_set b.slots.items c.in-Some.slot c.args.token)), count-weight (live b.slots.items), filled (λ t. 1) b.slots.items c.in-Some.slot c.in-Some.ensures.0 c.args.token c.in-Some.ensures.1 c.in-Some.ensures.2 c.requires.serial), held-more b.slots.items c.put.new.slots.items b.parking.flags c.self.invariant.1 others)

pub invariant_of-self-in-None : goal.invariant_of-self-in-None
invariant_of-self-in-None c =
    let b = c.self.inside in
    let others : (k : ℕ) (t : Token) → IsHeld b.slots.items k t → IsHeld c.push_reserved.new.self.items k t = λ k t i. (ap (λ z. slice_get z k) c.push_reserved.ensures.items ∙ got-more b.slots.items c.args.token k t i.0, i.1) in
    (omega (arith, c.self.invariant.0, ap (λ z. length (live z)) c.push_reserved.ensures.items, count-weight (live (b.slots.items ++ c.args.token ∷ [])), count-weight (live b.slots.items), pushed (λ t. 1) b.slots.items c.args.token c.requires.serial), held-more b.slots.items c.push_reserved.new.self.items b.parking.flags c.self.invariant.1 others)

pub returns-in-Some-clause-held : goal.returns-in-Some-clause-held
returns-in-Some-clause-held c =
    let b = c.self.inside in
    (ap (λ z. slice_get z c.in-Some.slot) c.put.ensures.items ∙ set-there b.slots.items c.in-Some.slot c.in-Some.ensures.0 c.args.token c.in-Some.ensures.1, c.requires.serial)

pub returns-in-Some-clause-others : goal.returns-in-Some-clause-others
returns-in-Some-clause-others c k t h =
    let b = c.self.inside in
    let i : IsHeld b.slots.items k t = rw (← c.self.view_is) at h in
    (ap (λ z. slice_get z k) c.put.ensures.items ∙ set-elsewhere b.slots.items c.in-Some.slot k c.args.token (not-there b.slots.items c.in-Some.slot k c.in-Some.ensures.0 t c.in-Some.ensures.1 c.in-Some.ensures.2 i) ∙ i.0, i.1)

pub returns-in-Some-clause-added : goal.returns-in-Some-clause-added
returns-in-Some-clause-added c w =
    let b = c.self.inside in
    rw (← c.self.view_is) (ap (λ z. weight w (live z)) c.put.ensures.items ∙ filled w b.slots.items c.in-Some.slot c.in-Some.ensures.0 c.args.token c.in-Some.ensures.1 c.in-Some.ensures.2 c.requires.serial)

pub returns-in-None-clause-held : goal.returns-in-None-clause-held
returns-in-None-clause-held c =
    let b = c.self.inside in
    let last : c.len-end.result ≡ length b.slots.items = omega (arith, c.len-end.ensures) in
    (ap (λ z. slice_get z c.len-end.result) c.push_reserved.ensures.items ∙ ap (slice_get (b.slots.items ++ c.args.token ∷ [])) last ∙ got-end b.slots.items c.args.token, c.requires.serial)

pub returns-in-None-clause-others : goal.returns-in-None-clause-others
returns-in-None-clause-others c k t h =
    let b = c.self.inside in
    let i : IsHeld b.slots.items k t = rw (← c.self.view_is) at h in
    (ap (λ z. slice_get z k) c.push_reserved.ensures.items ∙ got-more b.slots.items c.args.token k t i.0, i.1)

pub returns-in-None-clause-added : goal.returns-in-None-clause-added
returns-in-None-clause-added c w =
    let b = c.self.inside in
    rw (← c.self.view_is) (ap (λ z. weight w (live z)) c.push_reserved.ensures.items ∙ pushed w b.slots.items c.args.token c.requires.serial)

pub returns-in-Some-clause-parked : goal.returns-in-Some-clause-parked
returns-in-Some-clause-parked c =
    let b = c.self.inside in
    let others : (k : ℕ) (t : Token) → IsHeld b.slots.items k t → IsHeld c.put.new.slots.items k t = λ k t i. (ap (λ z. slice_get z k) c.put.ensures.items ∙ set-elsewhere b.slots.items c.in-Some.slot k c.args.token (not-there b.slots.items c.in-Some.slot k c.in-Some.ensures.0 t c.in-Some.ensures.1 c.in-Some.ensures.2 i) ∙ i.0, i.1) in
    rw (← c.self.view_is) (stay-added b.slots.items c.put.new.slots.items b.parking c.self.invariant.1 others)

pub returns-in-None-clause-parked : goal.returns-in-None-clause-parked
returns-in-None-clause-parked c =
    let b = c.self.inside in
    let others : (k : ℕ) (t : Token) → IsHeld b.slots.items k t → IsHeld c.push_reserved.new.self.items k t = λ k t i. (ap (λ z. slice_get z k) c.push_reserved.ensures.items ∙ got-more b.slots.items c.args.token k t i.0, i.1) in
    rw (← c.self.view_is) (stay-added b.slots.items c.push_reserved.new.self.items b.parking c.self.invariant.1 others)
