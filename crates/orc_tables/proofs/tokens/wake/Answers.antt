use Rattle.std.proofs.Common.{◌≡◌, ℕ, List, sym, ap, subst, ◌∙◌, true, inl, inr}
use Rattle.std.specs.Prelude.{slice_get}
use Rattle.orc_rules.specs.Timed.{IsIn}
use Rattle.orc_indexes.specs.Parking.{is_set, notes_at}
use Rattle.orc_indexes.specs.declared.wait_index.Note.{Note}
use Rattle.orc_indexes.proofs.Flags.{in-either}
use Rattle.orc_tables.proofs.tokens.wake.Goals as goal

pub loop-note-preserved : goal.loop-note-preserved
loop-note-preserved c =
    let I = c.loop-note.invariant in
    let cell = c.args.cell in
    let taken = c.take.new.self in
    let was : (k : ℕ) → is_set c.rouse.new.parking.flags k ≡ true → is_set c.loop-note.parking.flags k ≡ true = λ k f. ap (λ z. is_set z k) (sym c.take.ensures.flags) ∙ c.rouse.ensures.flags k f in
    record {
      flags = λ k f. I.flags k (was k f);
      left = λ k t h f i.
          let before : IsIn (record { slot = k; serial = t.serial }) (notes_at c.loop-note.parking.notes cell) = I.left k t h (was k f) i in
          elim (in-either (notes_at taken.notes cell) c.in-Some.note (record { slot = k; serial = t.serial }) (subst (λ (z : List Note). IsIn (record { slot = k; serial = t.serial }) z) c.in-Some.ensures.note before)) [
            | inl j ↦ subst (λ (z : List (List Note)). IsIn (record { slot = k; serial = t.serial }) (notes_at z cell)) (sym c.rouse.ensures.notes) j
            | inr e ↦ absurd (c.rouse.ensures.gone t (ap (slice_get c.args.slots.now.items) (sym (ap (λ (n : Note). n.slot) e)) ∙ h.0) (ap (λ (n : Note). n.serial) e) (ap (is_set c.rouse.new.parking.flags) (sym (ap (λ (n : Note). n.slot) e)) ∙ f))
          ];
      others = λ d off. ap (λ z. notes_at z d) c.rouse.ensures.notes ∙ c.take.ensures.others d off ∙ I.others d off;
    }

pub returns-clause-gone : goal.returns-clause-gone
returns-clause-gone c = λ k t h f i. elim (subst (λ (z : List Note). IsIn (record { slot = k; serial = t.serial }) z) c.in_default.ensures.note (c.loop-note.invariant.left k t h (ap (λ z. is_set z k) (sym c.take.ensures.flags) ∙ f) i)) [ ]
