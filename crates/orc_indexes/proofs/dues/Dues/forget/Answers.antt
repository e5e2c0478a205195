use Rattle.std.proofs.Common.{◌≡◌, ◌∙◌, ◌<◌, ℕ, List, ap, sym, subst, true, cond, length, arith}
use Rattle.std.specs.Prelude.{Some}
use Rattle.orc_indexes.specs.Dues.{IsFirst, IsNoted, KeepsBut, notes_of}
use Rattle.orc_calls.proofs.Notes.{Timed, found}
use Rattle.orc_indexes.proofs.Notes.{first_kept, first_popped, keeps_beside, keeps_but, shorter_beside}
use Rattle.orc_indexes.proofs.dues.Dues.forget.Goals.{in_default-via-in-Some+then-first-time+else-first-number, in_default-via-in-Some+else-first-time, in_default-via-in_default}
use Rattle.orc_indexes.proofs.dues.Dues.forget.Goals as goal

pub invariant_of-self : goal.invariant_of-self
invariant_of-self c =
    let e = c.pop_first-self-inside.ensures in
    first_popped c.pop_first-self-inside.result c.self.inside.others.keys c.pop_first-self-inside.new.self.keys e.all_above e.unchanged e.variant.1

pub invariant_of-self-in_default : goal.invariant_of-self-in_default
invariant_of-self-in_default c = first_kept c.self.inside.first c.args.time c.args.number c.self.inside.others.keys c.remove.new.self.keys c.self.invariant c.remove.ensures.updates.0

pub returns-in_default-clause-kept : goal.returns-in_default-clause-kept
returns-in_default-clause-kept c =
    let old = c.self.inside.others.keys in
    let new = c.remove.new.self.keys in
    subst (λ z. KeepsBut z (notes_of c.self.inside.first new) c.args.time c.args.number) c.self.view_is
    (keeps_beside c.self.inside.first c.args.time c.args.number old new (keeps_but c.args.time c.args.number old new c.remove.ensures.updates.0))

pub returns-in_default-clause-gone : goal.returns-in_default-clause-gone
returns-in_default-clause-gone c =
    let old = c.self.inside.others.keys in
    let new = c.remove.new.self.keys in
    let first = c.self.inside.first in
    let t = c.args.time in
    let k = c.args.number in
    let other : (a : Timed) → first ≡ Some a → a.0 ≡ t → a.1 ≡ k → ⊥ = λ a e at number. elim c.in_default.branch [ in_default-via-in-Some+then-first-time+else-first-number w ↦ absurd (w.if-first-number.false (cc (w.in-Some.is, e, number))) | in_default-via-in-Some+else-first-time w ↦ absurd (w.if-first-time.false (cc (w.in-Some.is, e, at))) | in_default-via-in_default w ↦ cc (w.in_default.is, e) ] in
    let gone : IsNoted old t k → length new < length old = λ h. omega (arith, c.remove.ensures.len, ap (λ b. cond {A = ℕ} b 1 0) (c.remove.ensures.test ∙ found (t, k) old h)) in
    subst (λ z. IsNoted z t k → length (notes_of first new) < length z) c.self.view_is (shorter_beside first t k old new other gone)
