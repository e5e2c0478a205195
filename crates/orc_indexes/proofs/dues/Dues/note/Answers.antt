use Rattle.std.proofs.Common.{◌≡◌, ◌∙◌, ℕ, List, ◌∷◌, ap, refl, sym, subst, inl, inr, ⊎_elim}
use Rattle.std.specs.Prelude.{Some}
use Rattle.orc_indexes.specs.Dues.{IsFirst, IsNoted, notes_of}
use Rattle.orc_calls.proofs.Notes.{Timed, Sets, puts, keeps}
use Rattle.orc_indexes.proofs.Notes.{put_first, put_other}
use Rattle.orc_indexes.proofs.dues.Dues.note.Goals as goal

pub invariant_of-self-then-is_before : goal.invariant_of-self-then-is_before
invariant_of-self-then-is_before c =
    let a = c.in-Some.first in
    let old = c.self.inside.others.keys in
    let first : IsFirst (Some a) old = subst (λ o. IsFirst o old) c.in-Some.is c.self.invariant in
    put_first a (c.args.time, c.args.number) old c.insert.new.self.keys first (c.if-is_before.ensures.before refl) c.in_ok-insert-in-Some.ensures.updates.0

pub invariant_of-self-in_ok-insert-in-Some-2 : goal.invariant_of-self-in_ok-insert-in-Some-2
invariant_of-self-in_ok-insert-in-Some-2 c =
    let a = c.in-Some.first in
    let old = c.self.inside.others.keys in
    let new = c.insert-then-is_before-2.new.self.keys in
    let first : IsFirst (Some a) old = subst (λ o. IsFirst o old) c.in-Some.is c.self.invariant in
    subst (λ o. IsFirst o new) (sym c.in-Some.is)
    (put_other a (c.args.time, c.args.number) old new first (c.if-is_before-2.ensures.before refl) c.in_ok-insert-in-Some-2.ensures.updates.0)

pub returns-in_ok-insert-in-Some-clause-kept : goal.returns-in_ok-insert-in-Some-clause-kept
returns-in_ok-insert-in-Some-clause-kept c = λ t k h.
    let a = c.in-Some.first in
    let old = c.self.inside.others.keys in
    let new = c.insert.new.self.keys in
    let is : c.args.self.now ≡ a ∷ old = sym c.self.view_is ∙ ap (λ o. notes_of o old) c.in-Some.is in
    let was : IsNoted (a ∷ old) t k = subst (λ z. IsNoted z t k) is h in
    inr (⊎_elim (λ e. subst (λ (z : Timed). IsNoted new (z.0) (z.1)) (sym e) (puts (a.0) (a.1) old new c.in_ok-insert-in-Some.ensures.updates.0)) (λ i. keeps (a.0) (a.1) old new c.in_ok-insert-in-Some.ensures.updates.0 t k i) was)

pub returns-in_ok-insert-in-Some-2-clause-noted : goal.returns-in_ok-insert-in-Some-2-clause-noted
returns-in_ok-insert-in-Some-2-clause-noted c =
    let old = c.self.inside.others.keys in
    let new = c.insert-then-is_before-2.new.self.keys in
    subst (λ o. IsNoted (notes_of o new) c.args.time c.args.number) (sym c.in-Some.is) (inr (puts c.args.time c.args.number old new c.in_ok-insert-in-Some-2.ensures.updates.0))

pub returns-in_ok-insert-in-Some-2-clause-kept : goal.returns-in_ok-insert-in-Some-2-clause-kept
returns-in_ok-insert-in-Some-2-clause-kept c = λ t k h.
    let a = c.in-Some.first in
    let old = c.self.inside.others.keys in
    let new = c.insert-then-is_before-2.new.self.keys in
    let is : c.args.self.now ≡ a ∷ old = sym c.self.view_is ∙ ap (λ o. notes_of o old) c.in-Some.is in
    let was : IsNoted (a ∷ old) t k = subst (λ z. IsNoted z t k) is h in
    subst (λ o. IsNoted (notes_of o new) t k) (sym c.in-Some.is) (⊎_elim (λ e. inl e) (λ i. inr (keeps c.args.time c.args.number old new c.in_ok-insert-in-Some-2.ensures.updates.0 t k i)) was)
