-- The tests decide what they say.
use Rattle.std.proofs.Common.{◌≡◌, ◌<◌, ◌≤◌, ◌+◌, ℕ, zero, suc, List, [], ◌∷◌, ◌++◌, Option, Some, None, refl, sym, ap, subst, inl, inr, ◌⊎◌, ⊎_elim, Bool, true, false, arith}
use Rattle.orc_rules.specs.declared.value.Answer.{Answer}
use Rattle.orc_rules.specs.declared.entry.State.{State}
use Rattle.orc_rules.specs.declared.entry.State.TheVariants.{Halted as HasHalted, Quiet, Running}
use Rattle.orc_rules.specs.Term.{Term, stop, param, site, call, par, seq, prune, other, pending, opened, Definition, pending_of, answered}
use Rattle.orc_rules.specs.Step.{Act, calls, returns, binds, loses, publishes, silent, opens, Used, IsNew, Step, return_rule, par_left, par_right, seq_other, prune_left, prune_right, other_step}
use Rattle.orc_rules.specs.Marked.{erase}
use Rattle.orc_rules.specs.Timed.{Context, Moment, IsIn, IsLater, IsIdle, IsTick, IsQuiet, used}
use Rattle.orc_rules.specs.Journal.{Place, moment}
use Rattle.orc_rules.specs.Verdict.{IsAt}
use Rattle.orc_rules.specs.Idle.{has_halted, can_move}
use Rattle.orc_rules.specs.Tests.{IsOwn, CanMove, state_by, HaltedByTest, CanMoveByTest, IdleByTest, TickByTest, QuietByTest, StateByTest}
use Rattle.orc_rules.specs.Pending.{PendsDue, IsNextDue}
use Rattle.orc_rules.proofs.Idle.{halted_test, test_halted, idle_returns, idle_by_test, can_step, IsReturn}

true_or : (b : Bool) → (b ≡ true) ⊎ (b ≡ false)
true_or true = inl refl
true_or false = inr refl

pub halted_by_test : HaltedByTest
halted_by_test t = (halted_test t, test_halted t)

-- a number that isn't used
new_above : (us : List ℕ) → (n : ℕ) × ((m : ℕ) → n ≤ m → IsNew m us)
new_above [] = (0, λ m le. tt)
new_above (u ∷ us) = let r = new_above us in (suc u + r.0, λ m le. (λ e. omega (arith, le, e), r.1 m (omega (arith, le))))

new_number : (us : List ℕ) → (n : ℕ) × IsNew n us
new_number us = let r = new_above us in (r.0, r.1 r.0 (omega arith))

own_not : (a : Act) (ks : List ℕ) → IsOwn a → IsReturn a ks → ⊥
own_not a ks o r = subst IsOwn r.is o

pub can_move_by_test : CanMoveByTest
can_move_by_test x s = (there, back)
  where
    there : CanMove x s → can_move x.definitions s.term ≡ true
    there (a, u, o, d) = ⊎_elim (λ y. y) (λ z. absurd (own_not a (pending_of s.term) o (idle_returns x.definitions (used s) d z))) (true_or (can_move x.definitions s.term))

    back : can_move x.definitions s.term ≡ true → CanMove x s
    back y =
        let k = new_number (Used.calls (used s)) in
        let c = new_number (Used.cells (used s)) in
        let d = can_step x.definitions (used s) k.0 c.0 k.1 c.1 s.term y in
        (d.act, d.after, d.own, d.step)

-- a call that pends can return
module _ (defs : List Definition) (used : Used) (k : ℕ) (a : Answer) where
  in_append : (us vs : List ℕ) → IsIn k (us ++ vs) → IsIn k us ⊎ IsIn k vs
  in_append [] vs h = inr h
  in_append (w ∷ us) vs (inl e) = inl (inl e)
  in_append (w ∷ us) vs (inr h) = ⊎_elim (λ y. inl (inr y)) (λ y. inr y) (in_append us vs h)

  pub can_return : (t : Term) → IsIn k (pending_of t) → (u : Term) × Step defs used t (returns k a) u
  can_return (pending j) (inl e) = (answered a, subst (λ w. Step defs used (pending w) (returns k a) (answered a)) e return_rule)
  can_return (pending j) (inr h) = elim h [ ]
  can_return (par f g) h =
      ⊎_elim (λ y. let d = can_return f y in (par d.0 g, par_left d.1)) (λ y. let d = can_return g y in (par f d.0, par_right d.1)) (in_append (pending_of f) (pending_of g) h)
  can_return (opened f c g) h =
      ⊎_elim (λ y. let d = can_return f y in (opened d.0 c g, prune_left d.1)) (λ y. let d = can_return g y in (opened f c d.0, prune_right tt d.1)) (in_append (pending_of f) (pending_of g) h)
  can_return (seq f x g) h = let d = can_return f h in (seq d.0 x g, seq_other tt d.1)
  can_return (other f g) h = let d = can_return f h in (other d.0 g, other_step tt d.1)
  can_return stop h = elim h [ ]
  can_return (param p) h = elim h [ ]
  can_return (site m ps) h = elim h [ ]
  can_return (call e ps) h = elim h [ ]
  can_return (prune f x g) h = elim h [ ]

own_later : (x : Context) (s : Moment) (a : Act) → IsOwn a → IsLater x.sites s a → ⊥
own_later x s (returns k b) o l = elim o [ ]
own_later x s (calls k m args cs) o l = l
own_later x s (binds c v) o l = l
own_later x s (loses c) o l = l
own_later x s (publishes v) o l = l
own_later x s silent o l = l
own_later x s (opens c) o l = l

pub idle_by : IdleByTest
idle_by x s = (there, λ h. idle_by_test x s h.0 (λ k b t i due. h.1 t (k, b, i, due)))
  where
    there : IsIdle x s → (can_move x.definitions s.term ≡ false) × ((t : ℕ) → PendsDue x s t → s.now < t)
    there idle = (
      ⊎_elim (λ y. let m = (can_move_by_test x s).1 y in absurd (own_later x s m.0 m.2 (idle m.0 m.1 m.3))) (λ n. n) (true_or (can_move x.definitions s.term)),
      λ t p. let d = can_return x.definitions (used s) p.0 p.1 s.term p.2 in idle (returns p.0 p.1) d.0 d.1 p.1 t p.3,
    )

next_same : (x : Context) (s : Moment) (due : Option ℕ) → IsNextDue x s due → (t : ℕ) → PendsDue x s t → ((u : ℕ) → PendsDue x s u → t ≤ u) → due ≡ Some t
next_same x s None next t p least = absurd (next t p)
next_same x s (Some u) next t p least = ap Some (omega (arith, next.1 t p, least u next.0))

pub tick_by_test : TickByTest
tick_by_test x s due next t = (there, back)
  where
    there : IsTick x s t → (can_move x.definitions s.term ≡ false) × (due ≡ Some t) × (s.now < t)
    there tick = (
      ((idle_by x s).0 tick.idle).0,
      next_same x s due next t tick.reached (λ u p. tick.least p.0 p.1 u p.2 p.3),
      tick.later,
    )

    back : (can_move x.definitions s.term ≡ false) × (due ≡ Some t) × (s.now < t) → IsTick x s t
    back (still, e, later) =
        let n : IsNextDue x s (Some t) = subst (IsNextDue x s) e next in
        record {
          idle = (idle_by x s).1 (still, λ u p. omega (arith, later, n.1 u p));
          later = later;
          reached = n.0;
          least = λ k a u i d. n.1 u (k, a, i, d);
        }

-- where no tick is possible and the term is idle, no pending call is ever due
no_due : (x : Context) (s : Moment) → IsIdle x s → ((t : ℕ) → IsTick x s t → ⊥) → (n t : ℕ) → t < n → PendsDue x s t → ⊥
no_due x s idle none zero t lt p = omega (arith, lt)
no_due x s idle none (suc n) t lt p = none t (record {
  idle = idle;
  later = ((idle_by x s).0 idle).1 t p;
  reached = p;
  least = λ k a u i d. least_of u (λ b. no_due x s idle none n u (omega (arith, lt, b)) (k, a, i, d));
})
  where
    least_of : (u : ℕ) → (u < t → ⊥) → t ≤ u
    least_of u h = omega (arith, h)

pub quiet_by_test : QuietByTest
quiet_by_test x s due next = (there, back)
  where
    never : IsQuiet x s → (o : Option ℕ) → IsNextDue x s o → o ≡ None
    never q None n = refl
    never q (Some t) n = absurd (no_due x s q.idle q.no_tick (suc t) t (omega arith) n.0)

    there : IsQuiet x s → (has_halted s.term ≡ false) × (can_move x.definitions s.term ≡ false) × (due ≡ None)
    there q = (
      ⊎_elim (λ y. absurd (q.running (test_halted s.term y))) (λ n. n) (true_or (has_halted s.term)),
      ((idle_by x s).0 q.idle).0,
      never q due next,
    )

    back : (has_halted s.term ≡ false) × (can_move x.definitions s.term ≡ false) × (due ≡ None) → IsQuiet x s
    back (h, m, e) =
        let n : IsNextDue x s None = subst (IsNextDue x s) e next in
        record {
          running = λ y. cc (halted_test s.term y, h);
          idle = (idle_by x s).1 (m, λ t p. absurd (n t p));
          no_tick = λ t tick. n t tick.reached;
        }

-- the state, where the tests are these
module _ (x : Context) (p : Place) (due : Option ℕ) (next : IsNextDue x (moment p) due) where
  state_of : (h m : Bool) (o : Option ℕ) → has_halted (erase p.marked) ≡ h → can_move x.definitions (erase p.marked) ≡ m → due ≡ o → IsAt x p (state_by h m o)
  state_of true m o eh em eo = test_halted (erase p.marked) eh
  state_of false true o eh em eo = (λ y. cc (halted_test (erase p.marked) y, eh), λ q. let t = (quiet_by_test x (moment p) due next).0 q in cc (t.1, em))
  state_of false false (Some t) eh em eo = (λ y. cc (halted_test (erase p.marked) y, eh), λ q. let t = (quiet_by_test x (moment p) due next).0 q in cc (t.2, eo))
  state_of false false None eh em eo = (quiet_by_test x (moment p) due next).1 (eh, em, eo)

-- a run stands in one state
pub at_one : (x : Context) (p : Place) (a b : State) → IsAt x p a → IsAt x p b → a ≡ b
at_one x p HasHalted HasHalted h k = refl
at_one x p HasHalted Quiet h k = absurd (k.running h)
at_one x p HasHalted Running h k = absurd (k.0 h)
at_one x p Quiet HasHalted h k = absurd (h.running k)
at_one x p Quiet Quiet h k = refl
at_one x p Quiet Running h k = absurd (k.1 h)
at_one x p Running HasHalted h k = absurd (h.0 k)
at_one x p Running Quiet h k = absurd (h.1 k)
at_one x p Running Running h k = refl

pub state_by_test : StateByTest
state_by_test x p due next state =
    let found : IsAt x p (state_by (has_halted (erase p.marked)) (can_move x.definitions (erase p.marked)) due) = state_of x p due next (has_halted (erase p.marked)) (can_move x.definitions (erase p.marked)) due refl refl refl in
    (λ h. at_one x p state (state_by (has_halted (erase p.marked)) (can_move x.definitions (erase p.marked)) due) h found, λ e. subst (IsAt x p) (sym e) found)
