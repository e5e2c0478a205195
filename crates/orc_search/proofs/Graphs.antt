-- A closed graph holds every run, and its ends are those of runs.
use Rattle.std.proofs.Common.{◌≡◌, ◌<◌, ◌≤◌, ℕ, ◌+◌, ◌-◌, ◌^◌, List, [], ◌∷◌, Bool, true, false, Option, Some, None, ◌⊎◌, refl, sym, ap, ◌∙◌, subst, inl, inr, arith}
use Rattle.std.specs.Prelude.{cond, nat_lt, slice_get}
use Rattle.std.proofs.lemmas.Bool.{ltb-true, ltb-false}
use Rattle.orc_rules.specs.declared.value.Answer.{Answer}
use Rattle.orc_rules.specs.declared.value.Found.{Found}
use Rattle.orc_rules.specs.declared.value.Found.TheVariants.{After, Never}
use Rattle.orc_rules.specs.Term.{Halted, pending_of}
use Rattle.orc_rules.specs.Idle.{has_halted}
use Rattle.orc_rules.specs.Timed.{Context, CallMade, Moment, used, says_of, IsIn, IsDue, IsQuiet}
use Rattle.orc_rules.proofs.Idle.{halted_test, test_halted}
use Rattle.orc_rules.proofs.Tests.{idle_by}
use Rattle.orc_search.specs.Small.{Out}
use Rattle.orc_search.specs.Moves.{SmallDefinition}
use Rattle.orc_search.specs.Moments.{left, out_of, small_of}
use Rattle.orc_search.specs.Ticks.{is_over, moves_now}
use Rattle.orc_search.specs.Successors.{least_left}
use Rattle.orc_search.specs.Runs.{IsWell}
use Rattle.orc_search.specs.States.{State, Sight, Path, state_of, sights, AreOf}
use Rattle.orc_search.specs.Graphs.{Edge, IsClosed, Walk, Whole, halted, quiet, quiet_if, ending, HaltedIsEnding, IsBeyond, QuietIsEnding, watched, AreWatched, RunIsWatched}
use Rattle.orc_search.proofs.Moments.{finds}
use Rattle.orc_search.proofs.Ticks.{over_same, moves_same, is_out, whose, call_of}
use Rattle.orc_search.proofs.Successors.{at_most, waits}
use Rattle.orc_search.proofs.States.{run_is_path}

module _ (smalls : List SmallDefinition) (states : List State) (edges : List (List Edge)) (closed : IsClosed smalls states edges) where
  walk : (i : ℕ) (s t : State) (vs : List Sight) → slice_get states i ≡ Some s → Path smalls s vs t → (j : ℕ) × Walk edges i vs j × (slice_get states j ≡ Some t)
  walk i s t [] at p = (i, refl, at ∙ ap Some p)
  walk i s t (v ∷ vs) at p =
      let step = closed i s p.0 v at p.1 in
      let rest = walk step.0 p.0 t vs step.2 p.2 in
      (rest.0, (step.0, step.1, rest.1), rest.2)

pub whole : Whole
whole x smalls s s' es states edges i of w closed at r = walk smalls states edges closed i (state_of x s) (state_of x s') (sights x s es s' r) at (run_is_path x smalls s s' es of w r)

module _ (edges : List (List Edge)) (sees : ℕ → Sight → ℕ) (pairs : List (ℕ × ℕ)) (are : AreWatched edges sees pairs) where
  follow : (i w j : ℕ) (vs : List Sight) → IsIn {X = ℕ × ℕ} (i, w) pairs → Walk edges i vs j → IsIn {X = ℕ × ℕ} (j, watched sees w vs) pairs
  follow i w j [] is walked = subst (λ (k : ℕ). IsIn {X = ℕ × ℕ} (k, w) pairs) walked is
  follow i w j (v ∷ vs) is walked = follow walked.0 (sees w v) j vs (are i w walked.0 v is walked.1) walked.2

pub run_is_watched : RunIsWatched
run_is_watched x smalls s s' es states edges sees pairs i w of well closed are at is r =
    let walked = whole x smalls s s' es states edges i of well closed at r in
    (walked.0, walked.2, follow edges sees pairs are i w walked.0 (sights x s es s' r) is walked.1)

pub halted_is_ending : HaltedIsEnding
halted_is_ending x smalls s h =
    let over : is_over (small_of x s) ≡ true = over_same (out_of x.sites s.now s.calls) [] s.term ∙ halted_test s.term h in
    ap (λ b. cond b (Some halted) (quiet_if (moves_now smalls (small_of x s)) (least_left (small_of x s)))) over

not_over : (x : Context) (s : Moment) → (Halted s.term → ⊥) → is_over (small_of x s) ≡ false
not_over x s running = go (has_halted s.term) refl where
  go : (b : Bool) → has_halted s.term ≡ b → is_over (small_of x s) ≡ false
  go true e = absurd (running (test_halted s.term e))
  go false e = over_same (out_of x.sites s.now s.calls) [] s.term ∙ e

-- a quiet run
module _ (x : Context) (smalls : List SmallDefinition) (s : Moment) (of : AreOf smalls x) (w : IsWell s) (q : IsQuiet x s) where
  -- what is left of a call that is due
  left_of : (k : ℕ) (a : Answer) (t : ℕ) → IsDue x.sites s.calls k a t → Out.rest (out_of x.sites s.now s.calls k) ≡ After a (t - s.now)
  left_of k a t due =
      let by = due.by in
      subst (λ (j : ℕ). Out.rest (out_of x.sites s.now s.calls j) ≡ After a (t - s.now)) due.is_k
      (ap Out.rest (finds x.sites s.now s.calls by w.2 due.is_made) ∙ ap (left s.now by.at) due.says ∙ ap (λ (j : ℕ). After a (j - s.now)) (sym due.sum))

  later : (k : ℕ) (a : Answer) (t : ℕ) → IsIn k (pending_of s.term) → IsDue x.sites s.calls k a t → s.now < t
  later k a t pends due = ((idle_by x s).0 q.idle).1 t (k, a, pends, due)

  not_before : (by k : ℕ) (a : Answer) (t : ℕ) → least_left (small_of x s) ≡ Some by → IsIn k (pending_of s.term) → IsDue x.sites s.calls k a t → s.now + by ≤ t
  not_before by k a t e pends due =
      let m = at_most (small_of x s) (out_of x.sites s.now s.calls k) a (t - s.now) (is_out (out_of x.sites s.now s.calls) [] s.term k pends) (left_of k a t due) in
      let same : Some by ≡ Some m.time = sym e ∙ m.is in
      let time : by ≡ m.time = cc same in
      omega (arith, time, m.within, later k a t pends due)

  too_late : (by : ℕ) → least_left (small_of x s) ≡ Some by → 2 ^ 64 ≤ s.now + by
  too_late by e =
      let v = waits (small_of x s) by e in
      let p = whose (used s) (out_of x.sites s.now s.calls) [] s.term v.call w.0 v.out in
      let m = call_of s.calls p.call p.made in
      let rest : left s.now m.by.at (says_of x.sites m.by) ≡ After v.answer by
      = sym (ap Out.rest (sym (ap (out_of x.sites s.now s.calls) m.is_k) ∙ finds x.sites s.now s.calls m.by w.2 m.is_made)) ∙ sym (ap Out.rest p.is) ∙ v.rest in
      go p.call p.pends m.by m.is_made m.is_k (says_of x.sites m.by) refl rest
    where
      go : (k : ℕ) → IsIn k (pending_of s.term) → (c : CallMade) → IsIn c s.calls → c.number ≡ k → (says : Found) → says_of x.sites c ≡ says → {a : Answer} → left s.now c.at (says_of x.sites c) ≡ After a by → 2 ^ 64 ≤ s.now + by
      go k pends c is_made is_k Never f {a = a} r =
          let wrong : Never ≡ After a by = ap (left s.now c.at) (sym f) ∙ r in
          cc wrong
      go k pends c is_made is_k (After b d) f {a = a} r =
          let same : After b (c.at + d - s.now) ≡ After a by = ap (left s.now c.at) (sym f) ∙ r in
          let time : c.at + d - s.now ≡ by = cc same in
          by_size time (nat_lt (c.at + d) (2 ^ 64)) refl
        where
          by_size : c.at + d - s.now ≡ by → (l : Bool) → nat_lt (c.at + d) (2 ^ 64) ≡ l → 2 ^ 64 ≤ s.now + by
          by_size time false l = omega (arith, time, ltb-false (c.at + d) (2 ^ 64) l)
          by_size time true l =
              let due : IsDue x.sites s.calls k b (c.at + d) = record { by = c; is_made = is_made; is_k = is_k; delay = d; says = f; sum = refl; fits = ltb-true (c.at + d) (2 ^ 64) l } in
              let after = later k b (c.at + d) pends due in
              absurd (q.no_tick (c.at + d) (record {
                idle = q.idle;
                later = after;
                reached = (k, b, pends, due);
                least = λ j a' u pends' due'. omega (arith, time, after, not_before by j a' u e pends' due');
              }))

  still : moves_now smalls (small_of x s) ≡ false
  still = moves_same x.definitions smalls of.there (out_of x.sites s.now s.calls) [] s.term w.1 ∙ ((idle_by x s).0 q.idle).0

  pub at_end : (o : Option ℕ) → least_left (small_of x s) ≡ o → (ending smalls (small_of x s) ≡ Some quiet) ⊎ IsBeyond x s
  at_end None e = inl (λ i. cond (not_over x s q.running i) (Some halted) (quiet_if (still i) (e i)))
  at_end (Some by) e = inr (by, e, too_late by e)

pub quiet_is_ending : QuietIsEnding
quiet_is_ending x smalls s of w q = at_end x smalls s of w q (least_left (small_of x s)) refl
