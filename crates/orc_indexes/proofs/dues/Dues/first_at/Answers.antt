use Rattle.std.proofs.Common.{◌≡◌, ◌<◌, ◌∙◌, ℕ, ap, sym, subst, false, List, ◌∷◌, arith}
use Rattle.std.specs.Prelude.{slice_get, IfSome, IsTrue, ⊤, Some}
use Rattle.std.specs.Ordering.{is_gt}
use Rattle.orc_indexes.specs.Dues.{IsFirst, IsNoted, IsLeastFrom, notes_of}
use Rattle.orc_calls.proofs.Notes.{Timed, compared, is_found, stands}
use Rattle.orc_indexes.proofs.Notes.{later, least_at, least_first, least_other, none_at, none_other, nothing_at}
use Rattle.orc_indexes.proofs.dues.Dues.first_at.Goals.{else-first-time-2-via-then-first-time-2+else-first-from, else-first-time-2-via-else-first-time-2}
use Rattle.orc_indexes.proofs.dues.Dues.first_at.Goals as goal

-- what is so of the first of a list
at_head : (P : Timed → Type 0) (r : List Timed) (a : Timed) (rest : List Timed) → r ≡ a ∷ rest → IfSome (slice_get r 0) P → P a
at_head P r a rest e h = subst (λ z. IfSome (slice_get z 0) P) e h

abbrev IsFrom : ℕ → ℕ → List Timed → Timed → Type 0
IsFrom t from keys k = ((is_gt (compared (t, from) k) ≡ false) × ⊤) × IsTrue (is_found keys k)

pub returns-then-first-time : goal.returns-then-first-time
returns-then-first-time c =
    let a = c.in_ok-first.first in
    let keys = c.self.inside.others.keys in
    let t = c.args.time in
    let first : IsFirst (Some a) keys = subst (λ o. IsFirst o keys) c.in_ok-first.was c.self.invariant in
    subst (λ z. (k : ℕ) → IsNoted z t k → k < c.args.from) (sym (ap (λ o. notes_of o keys) c.in_ok-first.was) ∙ c.self.view_is)
    (later a keys first t c.args.from c.if-first-time.true)

pub returns-then-first-from : goal.returns-then-first-from
returns-then-first-from c =
    let a = c.in_ok-first.first in
    let keys = c.self.inside.others.keys in
    let t = c.args.time in
    let first : IsFirst (Some a) keys = subst (λ o. IsFirst o keys) c.in_ok-first.was c.self.invariant in
    subst (λ z. IsLeastFrom z t c.args.from (a.1)) (sym (ap (λ o. notes_of o keys) c.in_ok-first.was) ∙ c.self.view_is)
    (least_first a keys first t c.args.from c.if-first-time-2.true c.if-first-from.true)

pub returns-in-Some : goal.returns-in-Some
returns-in-Some c =
    let keys = c.self.inside.others.keys in
    let a = c.in-Some.next.now in
    let t = c.args.time in
    let r = c.range.ensures.in_range tt in
    let next : IsFrom t c.args.from keys a = at_head (IsFrom t c.args.from keys) c.range.result a c.next.new.self c.in-Some.ensures.steps r.1 in
    subst (λ z. IsLeastFrom z t c.args.from (a.1)) (sym (ap (λ o. notes_of o keys) c.in_ok-first.was) ∙ c.self.view_is)
    (least_other c.in_ok-first.first keys t c.args.from (λ e. elim c.else-first-time-2.branch [ else-first-time-2-via-then-first-time-2+else-first-from w ↦ omega (arith, w.if-first-from.false) | else-first-time-2-via-else-first-time-2 w ↦ absurd (w.if-first-time-2.false e) ]) (a.1) (least_at t c.args.from keys a next.0.0 (λ q h f. at_head (λ k. is_gt (compared k q) ≡ false) c.range.result a c.next.new.self c.in-Some.ensures.steps (r.2 q (h, tt) f)) c.if-next-time.true (stands a keys next.1)))

pub returns-in_default : goal.returns-in_default
returns-in_default c =
    let keys = c.self.inside.others.keys in
    let a = c.in-Some.next.now in
    let t = c.args.time in
    let r = c.range.ensures.in_range tt in
    let next : IsFrom t c.args.from keys a = at_head (IsFrom t c.args.from keys) c.range.result a c.next.new.self c.in-Some.ensures.steps r.1 in
    subst (λ z. (k : ℕ) → IsNoted z t k → k < c.args.from) (sym (ap (λ o. notes_of o keys) c.in_ok-first.was) ∙ c.self.view_is)
    (none_other c.in_ok-first.first keys t c.args.from (λ e. elim c.else-first-time-2.branch [ else-first-time-2-via-then-first-time-2+else-first-from w ↦ omega (arith, w.if-first-from.false) | else-first-time-2-via-else-first-time-2 w ↦ absurd (w.if-first-time-2.false e) ]) (none_at t c.args.from keys a next.0.0 (λ q h f. at_head (λ k. is_gt (compared k q) ≡ false) c.range.result a c.next.new.self c.in-Some.ensures.steps (r.2 q (h, tt) f)) c.if-next-time.false))

pub returns-in_default-2 : goal.returns-in_default-2
returns-in_default-2 c =
    let keys = c.self.inside.others.keys in
    let r = c.range.ensures.in_range tt in
    let s = rw c.in_default.is at c.next.ensures.steps in
    subst (λ z. (k : ℕ) → IsNoted z c.args.time k → k < c.args.from) (sym (ap (λ o. notes_of o keys) c.in_ok-first.was) ∙ c.self.view_is)
    (none_other c.in_ok-first.first keys c.args.time c.args.from (λ e. elim c.else-first-time-2.branch [ else-first-time-2-via-then-first-time-2+else-first-from w ↦ omega (arith, w.if-first-from.false) | else-first-time-2-via-else-first-time-2 w ↦ absurd (w.if-first-time-2.false e) ]) (nothing_at c.args.time c.args.from keys (λ q h. r.5 s.0 q (h, tt))))
