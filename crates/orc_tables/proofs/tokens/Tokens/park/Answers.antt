use Rattle.std.proofs.Common.{◌∙◌, List, sym, ap, subst, inl, inr}
use Rattle.orc_rules.specs.Timed.{IsIn}
use Rattle.orc_indexes.specs.Parking.{is_set, notes_at}
use Rattle.orc_indexes.specs.declared.wait_index.Note.{Note}
use Rattle.orc_indexes.proofs.Flags.{now-set}
use Rattle.orc_tables.proofs.tokens.Tokens.park.Goals as goal

pub returns-in_err-note_all-clause-parked : goal.returns-in_err-note_all-clause-parked
returns-in_err-note_all-clause-parked c =
    rw (← c.self.view_is) (
      λ k t h. inl (h.0, sym (ap (λ z. is_set z k) c.in_err-note_all.ensures.flags ∙ c.in_ok-reach.ensures.flags k) ∙ h.1),
      λ d k n i. c.in_err-note_all.ensures.kept d k n (subst (λ (z : List (List Note)). IsIn (record { slot = k; serial = n }) (notes_at z d)) (sym c.in_ok-reach.ensures.notes) i),
    )

pub returns-clause-parked : goal.returns-clause-parked
returns-clause-parked c =
    let all = c.note_all.new.parking in
    rw (← c.self.view_is) (
      λ k t h. elim (now-set all.flags c.args.slot k (ap (λ z. is_set z k) (sym c.set.ensures.flags) ∙ h.1)) [
        | inl e ↦ inr (e, λ d i. subst (λ (z : List (List Note)). IsIn (record { slot = c.args.slot; serial = c.args.serial }) (notes_at z d)) (sym c.set.ensures.notes) (c.in_ok-note_all.ensures.noted d i))
        | inr f ↦ inl (h.0, sym (ap (λ z. is_set z k) c.in_ok-note_all.ensures.flags ∙ c.in_ok-reach.ensures.flags k) ∙ f)
      ],
      λ d k n i. subst (λ (z : List (List Note)). IsIn (record { slot = k; serial = n }) (notes_at z d)) (sym c.set.ensures.notes) (c.in_ok-note_all.ensures.kept d k n (subst (λ (z : List (List Note)). IsIn (record { slot = k; serial = n }) (notes_at z d)) (sym c.in_ok-reach.ensures.notes) i)),
    )
