use Rattle.std.proofs.Common.{sym, ap, ◌∙◌, arith}
use Rattle.orc_word.specs.Steps.{all_kept, all_given}
use Rattle.orc_word.proofs.Deeds.{sets_aside, parts}
use Rattle.orc_word.proofs.supply.Supply.part.Goals as goal

pub compare_exchange-requires : goal.compare_exchange-requires
compare_exchange-requires g c =
    let here = c.self.invariant in
    let named = ap (λ t. t.table_id) c.shared-shared.ensures ∙ c.args.groups.now.named in
    let planned = ap (λ t. t.key.groups) c.shared-shared.ensures ∙ c.args.groups.now.planned.0 in
    (here.0 ∙ sym named, omega (arith, c.args.groups.now.planned.1, ap (λ t. t.words) named), sets_aside _ _ _ _ _ _ _ here.2 c.if-self-passes.false (omega (arith, c.args.groups.now.planned.1, planned)))

pub split_seat-seat-requires : goal.split_seat-seat-requires
split_seat-seat-requires g c =
    let here = c.self.invariant in
    let named = ap (λ t. t.table_id) c.shared-shared.ensures ∙ c.args.groups.now.named in
    let told = c.compare_exchange.ensures in
    (told.0 ∙ here.0 ∙ sym named, omega (arith, c.args.groups.now.planned.1, ap (λ t. t.words) named), parts _ _ _ _ _ (ap (λ m. m.0) (told.2.0 _ here.2)))

pub invariant_of-result : goal.invariant_of-result
invariant_of-result g c =
    let here = c.self.invariant in
    let told = c.compare_exchange.ensures in
    let split = c.split_seat-seat.ensures in
    (split.3 ∙ told.0 ∙ here.0, ap (λ m. m.1) split.4, ap (λ m. m.0.stance) split.4 ∙ ap all_given (ap (λ m. m.0) (told.2.0 _ here.2)))

pub invariant_of-self : goal.invariant_of-self
invariant_of-self g c =
    let here = c.self.invariant in
    let told = c.compare_exchange.ensures in
    let after = told.2.0 _ here.2 in
    let split = c.split_seat-seat.ensures in
    (split.0 ∙ told.0 ∙ here.0, ap (λ m. m.1) split.2 ∙ ap (λ m. m.1) after ∙ here.1, ap (λ m. m.0.stance) split.2 ∙ ap all_kept (ap (λ m. m.0) after))
