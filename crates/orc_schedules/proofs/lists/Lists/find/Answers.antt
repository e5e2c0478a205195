use Rattle.std.proofs.Common.{◌≡◌, ◌++◌, ◌∷◌, [], sym, subst, ◌∙◌}
use Rattle.std.specs.Prelude.{slice_get}
use Rattle.orc_schedules.specs.declared.lists.Longer.{Longer}
use Rattle.orc_schedules.specs.Growing.{Grows}
use Rattle.orc_schedules.specs.Lists.{Linked, lists}
use Rattle.orc_schedules.proofs.Longer.{lists_grow, last_list}
use Rattle.orc_schedules.proofs.lists.Lists.find.Goals as goal

pub returns-in_err-remember-clause-kept : goal.returns-in_err-remember-clause-kept
returns-in_err-remember-clause-kept c =
    let l = c.args.self.now in
    let x : Longer = c.args.longer in
    let more : c.remember.new.self ≡ record { calls = l.calls; longer = l.longer ++ x ∷ [] } = c.remember.ensures ∙ c.in_ok-at.ensures.added in
    subst (λ (m : Linked). Grows (lists l) (lists m)) (sym more) (lists_grow l.calls l.longer x)

pub returns-clause-number : goal.returns-clause-number
returns-clause-number c =
    let l = c.args.self.now in
    let x : Longer = c.args.longer in
    let more : c.remember.new.self ≡ record { calls = l.calls; longer = l.longer ++ x ∷ [] } = c.remember.ensures ∙ c.in_ok-at.ensures.added in
    (λ i. slice_get (lists (more i)) (c.in_ok-at.ensures.number i)) ∙ last_list l.calls l.longer x

pub returns-clause-kept : goal.returns-clause-kept
returns-clause-kept c =
    let l = c.args.self.now in
    let x : Longer = c.args.longer in
    let more : c.remember.new.self ≡ record { calls = l.calls; longer = l.longer ++ x ∷ [] } = c.remember.ensures ∙ c.in_ok-at.ensures.added in
    subst (λ (m : Linked). Grows (lists l) (lists m)) (sym more) (lists_grow l.calls l.longer x)
