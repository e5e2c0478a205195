-- Early steps leave all other steps as they are, and so a state that is ahead follows.
use Rattle.std.proofs.Common.{◌≡◌, ◌≤◌, ℕ, suc, List, [], ◌∷◌, Bool, true, false, Option, Some, None, refl, sym, ap, ◌∙◌, subst, inl, inr, arith, eq-eqb}
use Rattle.std.specs.Prelude.{cond, nat_eq, ◌&&◌, ◌||◌, is_some, slice_get}
use Rattle.orc_rules.specs.declared.value.Value.{Value}
use Rattle.orc_rules.specs.declared.value.Answer.{Answer}
use Rattle.orc_rules.specs.declared.value.Found.TheVariants.{After, Never}
use Rattle.orc_rules.specs.declared.param.Param.{Param}
use Rattle.orc_rules.specs.declared.param.Param.TheVariants.{Name, Is, Cell, Void}
use Rattle.orc_rules.specs.Idle.{has_void}
use Rattle.orc_rules.specs.Sites.{values_eq}
use Rattle.orc_rules.specs.Term.{values_of, HasVoid, Definition}
use Rattle.orc_rules.specs.Timed.{Context}
use Rattle.orc_rules.proofs.Values.{values_decide}
use Rattle.orc_search.specs.Small.{Out, Small, nothing, asks, both, feeds, instead, awaits, needs, set, set_all, settle, IsOver, left_by}
use Rattle.orc_search.specs.Moves.{Happening, called, answered, published, unseen, IsPassed, SmallDefinition, Moves, value, on_left, on_right, feeding, on_main, on_side, first, passes}
use Rattle.orc_search.specs.Moves as move
use Rattle.orc_search.specs.Early.{Early, void_value, asked, void_call, returned, entered, fed, opens, binds, loses, falls, IsHidden, Leads, stays, early, IsAhead, Follows, stands, goes, AheadFollows, AheadEnds, AreHidden, AheadIsReached}
use Rattle.orc_search.specs.Early as by
use Rattle.orc_search.specs.Graphs.{Ending, halted, quiet_if, ending}
use Rattle.orc_search.specs.Seen.{seen}
use Rattle.orc_search.specs.States.{State, Sight, happens, waits, Coming, next_call, without_next, coming_after, Goes, Path, AreOf}
use Rattle.orc_search.specs.Successors.{least_left}
use Rattle.orc_search.specs.Ticks.{IsOut, Passes, is_over, moves_now}
use Rattle.orc_search.proofs.Listed.{true_over}
use Rattle.orc_search.proofs.Settling.{IsFixed, value_fixed, void_fixed, swap, set_settled, over_settled, values_settled, void_settled, left_settled, free, AreFree, body_settled, opening_settled, moves_settled}
use Rattle.orc_search.proofs.Successors.{over_true, void_true, at_most}

-- what is over can only lose cells, and is over after it
record IsOverAfter (h : Happening) (g : Small) : Type 0 where
  silent : h ≡ unseen
  over : IsOver g

over_after : (defs : List SmallDefinition) (ask : ℕ → List Value → Out) {n : ℕ} {f g : Small} {h : Happening} → IsOver f → Moves defs ask n f h g → IsOverAfter h g
over_after defs ask o value = elim o [ ]
over_after defs ask o move.void_value = elim o [ ]
over_after defs ask o (move.asked is) = elim o [ ]
over_after defs ask o (move.void_call has) = elim o [ ]
over_after defs ask o (move.returned is) = elim o [ ]
over_after defs ask o (move.entered is) = elim o [ ]
over_after defs ask o (on_left m) = let r = over_after defs ask o.0 m in record { silent = r.silent; over = (r.over, o.1) }
over_after defs ask o (on_right m) = let r = over_after defs ask o.1 m in record { silent = r.silent; over = (o.0, r.over) }
over_after defs ask o (feeding p m) = let r = over_after defs ask o m in record { silent = r.silent; over = r.over }
over_after defs ask o (move.fed {v = v} m) = let r = over_after defs ask o m in let no : published v ≡ unseen = r.silent in cc no
over_after defs ask o move.opens = elim o [ ]
over_after defs ask o (on_main m) = let r = over_after defs ask o.0 m in record { silent = r.silent; over = (r.over, o.1) }
over_after defs ask o (on_side p m) = let r = over_after defs ask o.1 m in record { silent = r.silent; over = (o.0, r.over) }
over_after defs ask o (move.binds {v = v} m) = let r = over_after defs ask o.1 m in let no : published v ≡ unseen = r.silent in cc no
over_after defs ask {n = n} o (move.loses {f = f} over) = record { silent = refl; over = over_settled Void void_fixed n f o.0 }
over_after defs ask o (first p m) = elim o [ ]
over_after defs ask o (passes m) = elim o [ ]
over_after defs ask o (move.falls over) = elim o [ ]

-- a call has values for all its arguments, or a void one
no_void : (ps : List Param) (args : List Value) → values_of ps ≡ Some args → HasVoid ps → ⊥
no_void [] args e has = elim has [ ]
no_void (Name x ∷ ps) args e has = cc e
no_void (Cell x ∷ ps) args e has = cc e
no_void (Void ∷ ps) args e has = cc e
no_void (Is v ∷ ps) args e (inl same) = cc same
no_void (Is v ∷ ps) args e (inr later) = go (values_of ps) refl (λ us p. no_void ps us p later) e where
  none : values_of ps ≡ None → values_of (Is v ∷ ps) ≡ None
  none p = rw p refl

  go : (o : Option (List Value)) → values_of ps ≡ o → ((us : List Value) → values_of ps ≡ Some us → ⊥) → values_of (Is v ∷ ps) ≡ Some args → ⊥
  go (Some us) p ih q = ih us p
  go None p ih q = let wrong : ◌≡◌ {A = Option (List Value)} None (Some args) = sym (none p) ∙ q in cc wrong

module _ (defs : List SmallDefinition) (ask : ℕ → List Value → Out) (Hidden : Happening → Type 0) where
  -- what is over stays so
  pub over_early : {n : ℕ} {f g : Small} → IsOver f → Early defs ask Hidden n f g → IsOver g
  over_early o void_value = elim o [ ]
  over_early o (asked is h) = elim o [ ]
  over_early o (void_call has) = elim o [ ]
  over_early o (returned is h) = elim o [ ]
  over_early o (entered is) = elim o [ ]
  over_early o fed = elim o [ ]
  over_early o opens = elim o [ ]
  over_early o binds = let no = o.1 in elim no [ ]
  over_early {n = n} o (loses {f = f} over) = over_settled Void void_fixed n f o.0
  over_early o (falls over) = elim o [ ]
  over_early o (by.on_left s) = (over_early o.0 s, o.1)
  over_early o (by.on_right s) = (o.0, over_early o.1 s)
  over_early o (by.feeding s) = over_early o s
  over_early o (by.on_main s) = (over_early o.0 s, o.1)
  over_early o (by.on_side s) = (o.0, over_early o.1 s)
  over_early o (by.first s) = elim o [ ]

  -- an early step is one, with something that is hidden
  pub record IsStep (n : ℕ) (f g : Small) : Type 0 where
    pub shows : Happening
    pub hidden : Hidden shows
    pub passed : IsPassed shows
    pub step : Moves defs ask n f shows g

  module _ (silent : Hidden unseen) where
    pub is_step : {n : ℕ} {f g : Small} → Early defs ask Hidden n f g → IsStep n f g
    is_step void_value = record { shows = unseen; hidden = silent; passed = tt; step = move.void_value }
    is_step (asked {m = m} {args = args} is h) = record { shows = called m args; hidden = h; passed = tt; step = move.asked is }
    is_step (void_call has) = record { shows = unseen; hidden = silent; passed = tt; step = move.void_call has }
    is_step (returned {o = o} {a = a} is h) = record { shows = answered o.site o.args a; hidden = h; passed = tt; step = move.returned is }
    is_step (entered is) = record { shows = unseen; hidden = silent; passed = tt; step = move.entered is }
    is_step fed = record { shows = unseen; hidden = silent; passed = tt; step = move.fed value }
    is_step opens = record { shows = unseen; hidden = silent; passed = tt; step = move.opens }
    is_step binds = record { shows = unseen; hidden = silent; passed = tt; step = move.binds value }
    is_step (loses over) = record { shows = unseen; hidden = silent; passed = tt; step = move.loses over }
    is_step (falls over) = record { shows = unseen; hidden = silent; passed = tt; step = move.falls over }
    is_step (by.on_left s) = let m = is_step s in record { shows = m.shows; hidden = m.hidden; passed = m.passed; step = on_left m.step }
    is_step (by.on_right s) = let m = is_step s in record { shows = m.shows; hidden = m.hidden; passed = m.passed; step = on_right m.step }
    is_step (by.feeding s) = let m = is_step s in record { shows = m.shows; hidden = m.hidden; passed = m.passed; step = feeding m.passed m.step }
    is_step (by.on_main s) = let m = is_step s in record { shows = m.shows; hidden = m.hidden; passed = m.passed; step = on_main m.step }
    is_step (by.on_side s) = let m = is_step s in record { shows = m.shows; hidden = m.hidden; passed = m.passed; step = on_side m.passed m.step }
    is_step (by.first s) = let m = is_step s in record { shows = m.shows; hidden = m.hidden; passed = m.passed; step = first m.passed m.step }

  -- no time passes where there is one
  pub data IsActive (f : Small) : Type 0 where
    moves : moves_now defs f ≡ true → IsActive f
    due : (o : Out) (a : Answer) → IsOut o f → o.rest ≡ After a 0 → IsActive f

  or_left : (a b : Bool) → a ≡ true → (a || b) ≡ true
  or_left true b e = refl
  or_left false b e = cc e

  or_right : (a b : Bool) → b ≡ true → (a || b) ≡ true
  or_right true b e = refl
  or_right false b e = e

  some_moves : (e : ℕ) (d : SmallDefinition) → slice_get defs e ≡ Some d → is_some (slice_get defs e) ≡ true
  some_moves e d is = ap is_some is

  pub active : {n : ℕ} {f g : Small} → Early defs ask Hidden n f g → IsActive f
  active void_value = moves refl
  active (asked {ps = ps} is h) = moves (or_left (is_some (values_of ps)) (has_void ps) (ap is_some is))
  active (void_call {ps = ps} has) = moves (or_right (is_some (values_of ps)) (has_void ps) (void_true ps has))
  active (returned {o = o} {a = a} is h) = due o a refl is
  active (entered {e = e} {d = d} is) = moves (some_moves e d is)
  active fed = moves refl
  active opens = moves refl
  active (binds {f = f}) = moves (or_right (moves_now defs f) _ refl)
  active (loses {f = f} {g = g} over) = moves (or_right (moves_now defs f) _ (or_right (moves_now defs g) (is_over g) (over_true g over)))
  active (falls {f = f} over) = moves (or_right (moves_now defs f) (is_over f) (over_true f over))
  active (by.on_left {f = f} {g = g} s) = go (active s) where
    go : IsActive f → IsActive (both f g)
    go (moves e) = moves (or_left (moves_now defs f) (moves_now defs g) e)
    go (due o a out is) = due o a (inl out) is
  active (by.on_right {f = f} {g = g} s) = go (active s) where
    go : IsActive g → IsActive (both f g)
    go (moves e) = moves (or_right (moves_now defs f) (moves_now defs g) e)
    go (due o a out is) = due o a (inr out) is
  active (by.feeding {x = x} {f = f} {g = g} s) = go (active s) where
    go : IsActive f → IsActive (feeds f x g)
    go (moves e) = moves e
    go (due o a out is) = due o a out is
  active (by.on_main {f = f} {g = g} s) = go (active s) where
    go : IsActive f → IsActive (needs f g)
    go (moves e) = moves (or_left (moves_now defs f) _ e)
    go (due o a out is) = due o a (inl out) is
  active (by.on_side {f = f} {g = g} s) = go (active s) where
    go : IsActive g → IsActive (needs f g)
    go (moves e) = moves (or_right (moves_now defs f) _ (or_left (moves_now defs g) (is_over g) e))
    go (due o a out is) = due o a (inr out) is
  active (by.first {f = f} {g = g} s) = go (active s) where
    go : IsActive f → IsActive (instead f g)
    go (moves e) = moves (or_left (moves_now defs f) (is_over f) e)
    go (due o a out is) = due o a out is

  pub no_time : {n by : ℕ} {f g k : Small} → Early defs ask Hidden n f g → Passes defs f by k → ⊥
  no_time {by = time} {f = f} s p = go (active s) where
    go : IsActive f → ⊥
    go (moves e) = let wrong : true ≡ false = sym e ∙ p.still in cc wrong
    go (due o a out is) = omega (arith, p.some, p.least o a 0 out is)

  -- and a run ends there only if it ends so after it, too
  pub ends : {n : ℕ} {f g : Small} (e : Ending) → Early defs ask Hidden n f g → ending defs f ≡ Some e → ending defs g ≡ Some e
  ends {f = f} {g = g} e s is = go (is_over f) refl (active s) is where
    rest : (b : Bool) (o : Option ℕ) → quiet_if b o ≡ Some e → (b ≡ false) × (o ≡ None)
    rest false None h = (refl, refl)
    rest false (Some t) h = cc h
    rest true o h = cc h

    active_is : IsActive f → quiet_if (moves_now defs f) (least_left f) ≡ Some e → ⊥
    active_is (moves m) h = let r = rest (moves_now defs f) (least_left f) h in let wrong : true ≡ false = sym m ∙ r.0 in cc wrong
    active_is (due o a out zero_left) h =
        let r = rest (moves_now defs f) (least_left f) h in
        let m = at_most f o a 0 out zero_left in
        let wrong : ◌≡◌ {A = Option ℕ} None (Some m.time) = sym r.1 ∙ m.is in
        cc wrong

    go : (b : Bool) → is_over f ≡ b → IsActive f → cond (is_over f) (Some halted) (quiet_if (moves_now defs f) (least_left f)) ≡ Some e → ending defs g ≡ Some e
    go true over act h =
        let g_over : is_over g ≡ true = over_true g (over_early (true_over f over) s) in
        ap (λ b. cond b (Some halted) (quiet_if (moves_now defs g) (least_left g))) g_over
        ∙ sym (ap (λ b. cond b (Some halted) (quiet_if (moves_now defs f) (least_left f))) over) ∙ h
    go false over act h = absurd (active_is act (sym (ap (λ b. cond b (Some halted) (quiet_if (moves_now defs f) (least_left f))) over) ∙ h))

-- where calls are answered the same, and at least as much is hidden, they are early, too
module _ (defs : List SmallDefinition) (ask ask' : ℕ → List Value → Out) (Hidden Hidden' : Happening → Type 0) (same : (m : ℕ) (args : List Value) → Hidden (called m args) → ask m args ≡ ask' m args) (more : (h : Happening) → Hidden h → Hidden' h) where
  pub still_early : {n : ℕ} {f g : Small} → Early defs ask Hidden n f g → Early defs ask' Hidden' n f g
  still_early void_value = void_value
  still_early {n = n} (asked {m = m} {ps = ps} {args = args} is h) =
      subst (λ (o : Out). Early defs ask' Hidden' n (asks m ps) (awaits o)) (sym (same m args h)) (asked is (more (called m args) h))
  still_early (void_call has) = void_call has
  still_early (returned {o = o} {a = a} is h) = returned is (more (answered o.site o.args a) h)
  still_early (entered is) = entered is
  still_early fed = fed
  still_early opens = opens
  still_early binds = binds
  still_early (loses over) = loses over
  still_early (falls over) = falls over
  still_early (by.on_left s) = by.on_left (still_early s)
  still_early (by.on_right s) = by.on_right (still_early s)
  still_early (by.feeding s) = by.feeding (still_early s)
  still_early (by.on_main s) = by.on_main (still_early s)
  still_early (by.on_side s) = by.on_side (still_early s)
  still_early (by.first s) = by.first (still_early s)

module _ (defs : List SmallDefinition) (ask : ℕ → List Value → Out) (Hidden : Happening → Type 0) (are : AreFree defs) where
  -- where a cell further out is settled, they are early, too
  module _ (w : Param) (w_fixed : IsFixed w) (n : ℕ) where
    to : {k : ℕ} {f g g' : Small} → g ≡ g' → Early defs ask Hidden k f g → Early defs ask Hidden k f g'
    to {k = k} {f = f} e s = subst (λ (g : Small). Early defs ask Hidden k f g) e s

    early_settled : {k : ℕ} {f g : Small} → n ≤ k → Early defs ask Hidden (suc k) f g → Early defs ask Hidden k (settle w n f) (settle w n g)
    early_settled le void_value = void_value
    early_settled le (asked {ps = ps} {args = args} is h) = asked (values_settled w w_fixed n ps args is) h
    early_settled le (void_call {ps = ps} has) = void_call (void_settled w w_fixed n ps has)
    early_settled le (returned {a = a} is h) = to (sym (left_settled w w_fixed n a)) (returned is h)
    early_settled le (entered {e = e} {ps = ps} {d = d} is) = to (body_settled defs ask are w w_fixed n e ps d is) (entered is)
    early_settled le (fed {x = x} {g = g} {v = v}) = to (λ i. both (feeds nothing x (settle w n g)) (sym (set_settled w w_fixed n (Is v) x g) i)) fed
    early_settled {k = k} le (opens {x = x} {f = f} {g = g}) = to (opening_settled defs ask are w w_fixed n k x f g le) opens
    early_settled {k = k} le (binds {f = f} {v = v}) = to (sym (swap (Is v) w (value_fixed v) w_fixed n k le f)) binds
    early_settled {k = k} le (loses {f = f} {g = g} over) = to (sym (swap Void w void_fixed w_fixed n k le f)) (loses (over_settled w w_fixed n g over))
    early_settled le (falls {f = f} over) = falls (over_settled w w_fixed n f over)
    early_settled le (by.on_left s) = by.on_left (early_settled le s)
    early_settled le (by.on_right s) = by.on_right (early_settled le s)
    early_settled le (by.feeding s) = by.feeding (early_settled le s)
    early_settled {k = k} le (by.on_main s) = by.on_main (early_settled {k = suc k} (omega (arith, le)) s)
    early_settled le (by.on_side s) = by.on_side (early_settled le s)
    early_settled le (by.first s) = by.first (early_settled le s)

  -- an early step and another one: they are the same, or the early one leads where the other one has, or the other one is still there, and leads to where the early one leads, or to where nothing is left of it
  data Meets (n : ℕ) (s' : Small) (h : Happening) (t : Small) : Type 0 where
    same : Hidden h → IsPassed h → t ≡ s' → Meets n s' h t
    nearer : Hidden h → IsPassed h → Early defs ask Hidden n t s' → Meets n s' h t
    dropped : Moves defs ask n s' h t → Meets n s' h t
    later : (t' : Small) → Moves defs ask n s' h t' → Early defs ask Hidden n t t' → Meets n s' h t

  in_both_left : {n : ℕ} {s' g : Small} {h : Happening} {t : Small} → Meets n s' h t → Meets n (both s' g) h (both t g)
  in_both_left {g = g} (same hid p e) = same hid p (ap (λ f. both f g) e)
  in_both_left (nearer hid p s) = nearer hid p (by.on_left s)
  in_both_left (dropped m) = dropped (on_left m)
  in_both_left {g = g} (later t' m s) = later (both t' g) (on_left m) (by.on_left s)

  in_both_right : {n : ℕ} {s' f : Small} {h : Happening} {t : Small} → Meets n s' h t → Meets n (both f s') h (both f t)
  in_both_right {f = f} (same hid p e) = same hid p (ap (λ g. both f g) e)
  in_both_right (nearer hid p s) = nearer hid p (by.on_right s)
  in_both_right (dropped m) = dropped (on_right m)
  in_both_right {f = f} (later t' m s) = later (both f t') (on_right m) (by.on_right s)

  in_feeds : {n x : ℕ} {s' g : Small} {h : Happening} {t : Small} → IsPassed h → Meets n s' h t → Meets n (feeds s' x g) h (feeds t x g)
  in_feeds {x = x} {g = g} p (same hid q e) = same hid q (ap (λ f. feeds f x g) e)
  in_feeds p (nearer hid q s) = nearer hid q (by.feeding s)
  in_feeds p (dropped m) = dropped (feeding p m)
  in_feeds {x = x} {g = g} p (later t' m s) = later (feeds t' x g) (feeding p m) (by.feeding s)

  in_main : {n : ℕ} {s' g : Small} {h : Happening} {t : Small} → Meets (suc n) s' h t → Meets n (needs s' g) h (needs t g)
  in_main {g = g} (same hid p e) = same hid p (ap (λ f. needs f g) e)
  in_main (nearer hid p s) = nearer hid p (by.on_main s)
  in_main (dropped m) = dropped (on_main m)
  in_main {g = g} (later t' m s) = later (needs t' g) (on_main m) (by.on_main s)

  in_side : {n : ℕ} {s' f : Small} {h : Happening} {t : Small} → IsPassed h → Meets n s' h t → Meets n (needs f s') h (needs f t)
  in_side {f = f} p (same hid q e) = same hid q (ap (λ g. needs f g) e)
  in_side p (nearer hid q s) = nearer hid q (by.on_side s)
  in_side p (dropped m) = dropped (on_side p m)
  in_side {f = f} p (later t' m s) = later (needs f t') (on_side p m) (by.on_side s)

  in_first : {n : ℕ} {s' g : Small} {h : Happening} {t : Small} → IsPassed h → Meets n s' h t → Meets n (instead s' g) h (instead t g)
  in_first {g = g} p (same hid q e) = same hid q (ap (λ f. instead f g) e)
  in_first p (nearer hid q s) = nearer hid q (by.first s)
  in_first p (dropped m) = dropped (first p m)
  in_first {g = g} p (later t' m s) = later (instead t' g) (first p m) (by.first s)

  -- a value that a part publishes is taken by what stands around it
  taken : {n x : ℕ} {s' g : Small} {v : Value} {t : Small} → Meets n s' (published v) t → Meets n (feeds s' x g) unseen (both (feeds t x g) (set (Is v) x g))
  taken (same hid p e) = elim p [ ]
  taken (nearer hid p s) = elim p [ ]
  taken (dropped m) = dropped (move.fed m)
  taken {x = x} {g = g} {v = v} (later t' m s) = later (both (feeds t' x g) (set (Is v) x g)) (move.fed m) (by.on_left (by.feeding s))

  bound : {n : ℕ} {f s' : Small} {v : Value} {t : Small} → Meets n s' (published v) t → Meets n (needs f s') unseen (settle (Is v) n f)
  bound (same hid p e) = elim p [ ]
  bound (nearer hid p s) = elim p [ ]
  bound (dropped m) = dropped (move.binds m)
  bound (later t' m s) = dropped (move.binds m)

  passed_on : {n : ℕ} {s' g : Small} {v : Value} {t : Small} → Meets n s' (published v) t → Meets n (instead s' g) (published v) t
  passed_on (same hid p e) = elim p [ ]
  passed_on (nearer hid p s) = elim p [ ]
  passed_on (dropped m) = dropped (passes m)
  passed_on (later t' m s) = later t' (passes m) s

  module _ (silent : Hidden unseen) where
    over_lost : {n : ℕ} {f g' : Small} {h : Happening} → IsPassed h → IsOverAfter h g' → Meets n (settle Void n f) h (needs f g')
    over_lost p r = nearer (subst Hidden (sym r.silent) silent) p (loses r.over)

    over_fallen : {n : ℕ} {f' g : Small} {h : Happening} → IsPassed h → IsOverAfter h f' → Meets n g h (instead f' g)
    over_fallen p r = nearer (subst Hidden (sym r.silent) silent) p (falls r.over)

    never : {v : Value} {P : Type 0} → published v ≡ unseen → P
    never e = cc e

    same_call : {n m : ℕ} (ps : List Param) {args args' : List Value} → values_of ps ≡ Some args → values_of ps ≡ Some args' → Hidden (called m args) → Meets n (awaits (ask m args)) (called m args') (awaits (ask m args'))
    same_call {m = m} ps {args = args} {args' = args'} is is' h =
        let some : Some args ≡ Some args' = sym is ∙ is' in
        let e : args ≡ args' = cc some in
        same (subst (λ (vs : List Value). Hidden (called m vs)) e h) tt (ap (λ (vs : List Value). awaits (ask m vs)) (sym e))

    same_answer : {n : ℕ} {o : Out} {a a' : Answer} → o.rest ≡ After a 0 → o.rest ≡ After a' 0 → Hidden (answered o.site o.args a) → Meets n (left_by a) (answered o.site o.args a') (left_by a')
    same_answer {o = o} {a = a} {a' = a'} is is' h =
        let some : After a 0 ≡ After a' 0 = sym is ∙ is' in
        let e : a ≡ a' = cc some in
        same (subst (λ (b : Answer). Hidden (answered o.site o.args b)) e h) tt (ap left_by (sym e))

    same_body : {n : ℕ} (e : ℕ) (ps : List Param) {d d' : SmallDefinition} → slice_get defs e ≡ Some d → slice_get defs e ≡ Some d' → Meets n (set_all d.params ps d.body) unseen (set_all d'.params ps d'.body)
    same_body e ps {d = d} {d' = d'} is is' =
        let some : Some d ≡ Some d' = sym is ∙ is' in
        let e : d ≡ d' = cc some in
        same silent tt (ap (λ (k : SmallDefinition). set_all k.params ps k.body) (sym e))

    meets : {n : ℕ} {s s' t : Small} {h : Happening} → Early defs ask Hidden n s s' → Moves defs ask n s h t → Meets n s' h t
    meets void_value move.void_value = same silent tt refl
    meets (asked {ps = ps} is h) (move.asked is') = same_call ps is is' h
    meets (asked {ps = ps} {args = args} is h) (move.void_call has) = absurd (no_void ps args is has)
    meets (void_call {ps = ps} has) (move.asked {args = args} is) = absurd (no_void ps args is has)
    meets (void_call has) (move.void_call has') = same silent tt refl
    meets (returned is h) (move.returned is') = same_answer is is' h
    meets (entered {e = e} {ps = ps} is) (move.entered is') = same_body e ps is is'
    meets fed (feeding p value) = elim p [ ]
    meets fed (move.fed value) = same silent tt refl
    meets opens move.opens = same silent tt refl
    meets {n = n} (binds {v = v}) (on_main {f' = f'} m) = later (settle (Is v) n f') (moves_settled defs ask are (Is v) (value_fixed v) n (omega arith) m) binds
    meets binds (on_side p value) = elim p [ ]
    meets binds (move.binds value) = same silent tt refl
    meets binds (move.loses over) = elim over [ ]
    meets {n = n} (loses over) (on_main {f' = f'} m) = later (settle Void n f') (moves_settled defs ask are Void void_fixed n (omega arith) m) (loses over)
    meets (loses over) (on_side p m) = over_lost p (over_after defs ask over m)
    meets (loses over) (move.binds m) = never (IsOverAfter.silent (over_after defs ask over m))
    meets (loses over) (move.loses over') = same silent tt refl
    meets (falls over) (first p m) = over_fallen p (over_after defs ask over m)
    meets (falls over) (passes m) = never (IsOverAfter.silent (over_after defs ask over m))
    meets (falls over) (move.falls over') = same silent tt refl
    meets (by.on_left s) (on_left m) = in_both_left (meets s m)
    meets (by.on_left {f' = f'} s) (on_right {g' = g'} m) = later (both f' g') (on_right m) (by.on_left s)
    meets (by.on_right {g' = g'} s) (on_left {f' = f'} m) = later (both f' g') (on_left m) (by.on_right s)
    meets (by.on_right s) (on_right m) = in_both_right (meets s m)
    meets (by.feeding s) (feeding p m) = in_feeds p (meets s m)
    meets (by.feeding s) (move.fed m) = taken (meets s m)
    meets (by.on_main s) (on_main m) = in_main (meets s m)
    meets (by.on_main {f' = f'} s) (on_side {g' = g'} p m) = later (needs f' g') (on_side p m) (by.on_main s)
    meets {n = n} (by.on_main {f' = f'} s) (move.binds {v = v} m) = later (settle (Is v) n f') (move.binds m) (early_settled (Is v) (value_fixed v) n (omega arith) s)
    meets {n = n} (by.on_main {f' = f'} s) (move.loses over) = later (settle Void n f') (move.loses over) (early_settled Void void_fixed n (omega arith) s)
    meets (by.on_side {g' = g'} s) (on_main {f' = f'} m) = later (needs f' g') (on_main m) (by.on_side s)
    meets (by.on_side s) (on_side p m) = in_side p (meets s m)
    meets (by.on_side s) (move.binds m) = bound (meets s m)
    meets (by.on_side s) (move.loses over) = dropped (move.loses (over_early defs ask Hidden over s))
    meets (by.first s) (first p m) = in_first p (meets s m)
    meets (by.first s) (passes m) = passed_on (meets s m)
    meets (by.first s) (move.falls over) = dropped (move.falls (over_early defs ask Hidden over s))

-- ---- states

-- calls that are made one after another, in either order
twice : (a b : Bool) (i : ℕ) → cond b (suc (cond a (suc i) i)) (cond a (suc i) i) ≡ cond a (suc (cond b (suc i) i)) (cond b (suc i) i)
twice true true i = refl
twice true false i = refl
twice false true i = refl
twice false false i = refl

swap_calls : (m k : ℕ) (args vs : List Value) (c : Coming) → without_next m args (without_next k vs c) ≡ without_next k vs (without_next m args c)
swap_calls m k args vs c = λ j n us i. c n us (twice (nat_eq n m && values_eq us args) (nat_eq n k && values_eq us vs) i j)

-- after anything else, calls to come that a call leaves as they are stay so
steady : (k h : Happening) (c : Coming) → coming_after k c ≡ c → coming_after k (coming_after h c) ≡ coming_after h c
steady (called m args) (called k vs) c e = swap_calls m k args vs c ∙ ap (without_next k vs) e
steady (called m args) (answered k vs a) c e = e
steady (called m args) (published v) c e = e
steady (called m args) unseen c e = e
steady (answered m args a) h c e = refl
steady (published v) h c e = refl
steady unseen h c e = refl

-- the next one is answered the same then
answer_stays : (c : Coming) (m : ℕ) (args : List Value) (b : Bool) → without_next m args c ≡ c → c m args (cond b 1 0) ≡ c m args 0
answer_stays c m args false e = refl
answer_stays c m args true e =
    let own : (nat_eq m m && values_eq args args) ≡ true = (λ i. eq-eqb m m refl i && (values_decide args args).1 refl i) in
    ap (λ (b : Bool). c m args (cond b 1 0)) (sym own) ∙ (λ i. e i m args 0)

call_stays : (c : Coming) (m : ℕ) (args : List Value) (h : Happening) → coming_after (called m args) c ≡ c → next_call c m args ≡ next_call (coming_after h c) m args
call_stays c m args (called k vs) e = λ i. record { site = m; args = args; rest = sym (answer_stays c m args (nat_eq m k && values_eq args vs) e) i }
call_stays c m args (answered k vs a) e = refl
call_stays c m args (published v) e = refl
call_stays c m args unseen e = refl

module _ (smalls : List SmallDefinition) (hides : Happening → Bool) where
  early_after : (c : Coming) (h : Happening) {n : ℕ} {f g : Small} → Early smalls (next_call c) (IsHidden hides c) n f g → Early smalls (next_call (coming_after h c)) (IsHidden hides (coming_after h c)) n f g
  early_after c h s = still_early smalls (next_call c) (next_call (coming_after h c)) (IsHidden hides c) (IsHidden hides (coming_after h c)) (λ m args hid. call_stays c m args h hid.1) (λ k hid. (hid.0, steady k h c hid.1)) s

  passes_ahead : (c : Coming) {f k g : Small} {time : ℕ} → Leads smalls hides c f k → Passes smalls f time g → Passes smalls k time g
  passes_ahead c stays p = p
  passes_ahead c (early s rest) p = absurd (no_time smalls (next_call c) (IsHidden hides c) s p)

  ends_ahead : (c : Coming) {f k : Small} (e : Ending) → Leads smalls hides c f k → ending smalls f ≡ Some e → ending smalls k ≡ Some e
  ends_ahead c e stays is = is
  ends_ahead c e (early s rest) is = ends_ahead c e rest (ends smalls (next_call c) (IsHidden hides c) e s is)

  module _ (silent : hides unseen ≡ true) where
    record Way (c : Coming) (f k : Small) : Type 0 where
      sights : List Sight
      path : Path smalls (record { term = f; coming = c }) sights (record { term = k; coming = c })
      hidden : AreHidden hides sights

    way : (c : Coming) {f k : Small} → Leads smalls hides c f k → Way c f k
    way c stays = record { sights = []; path = refl; hidden = tt }
    way c (early {g = g} s rest) =
        let m = is_step smalls (next_call c) (IsHidden hides c) (silent, refl) s in
        let w = way c rest in
        record {
          sights = happens m.shows ∷ w.sights;
          path = (record { term = g; coming = c }, (m.step, sym (m.hidden.1)), w.path);
          hidden = ((m.shows, refl, m.hidden.0), w.hidden);
        }

    module _ (are : AreFree smalls) where
      -- what a term that is ahead does, where another one does this
      data Takes (c : Coming) (h : Happening) (t k : Small) : Type 0 where
        stood : IsHidden hides c h → Leads smalls hides c t k → Takes c h t k
        went : (u : Small) → Moves smalls (next_call c) 0 k h u → Leads smalls hides (coming_after h c) t u → Takes c h t k

      before : (c : Coming) (h : Happening) {t t' k : Small} → Early smalls (next_call c) (IsHidden hides c) 0 t t' → Takes c h t' k → Takes c h t k
      before c h s (stood hid l) = stood hid (early s l)
      before c h s (went u m l) = went u m (early (early_after c h s) l)

      met : (c : Coming) (h : Happening) {g k t : Small} → Leads smalls hides c g k → ((t' : Small) → Moves smalls (next_call c) 0 g h t' → Takes c h t' k) → Meets smalls (next_call c) (IsHidden hides c) are 0 g h t → Takes c h t k
      met c h {k = k} rest onwards (same hid p e) = stood hid (subst (λ (f : Small). Leads smalls hides c f k) (sym e) rest)
      met c h rest onwards (nearer hid p s) = stood hid (early s rest)
      met c h {t = t} rest onwards (dropped m) = onwards t m
      met c h rest onwards (later t' m s) = before c h s (onwards t' m)

      follow : (c : Coming) (h : Happening) {f k t : Small} → Leads smalls hides c f k → Moves smalls (next_call c) 0 f h t → Takes c h t k
      follow c h {t = t} stays m = went t m stays
      follow c h {k = k} (early {g = g} s rest) m = met c h rest (λ t' m'. follow c h rest m') (meets smalls (next_call c) (IsHidden hides c) are (silent, refl) s m)

      happens_ahead : (s ahead t : State) (h : Happening) → IsAhead smalls hides s ahead → Goes smalls s (happens h) t → Follows smalls hides ahead (happens h) t
      happens_ahead s ahead t h is g = go (follow s.coming h is.0 g.0) where
        go : Takes s.coming h t.term ahead.term → Follows smalls hides ahead (happens h) t
        go (stood hid l) =
            let same_coming : t.coming ≡ s.coming = g.1 ∙ hid.1 in
            stands h refl hid.0 (subst (λ (c : Coming). Leads smalls hides c t.term ahead.term) (sym same_coming) l, is.1 ∙ sym same_coming)
        go (went u m l) = goes (record { term = u; coming = coming_after h ahead.coming })
            (subst (λ (c : Coming). Moves smalls (next_call c) 0 ahead.term h u) (sym is.1) m, refl)
            (subst (λ (c : Coming). Leads smalls hides c t.term u) (sym g.1) l, ap (coming_after h) is.1 ∙ sym g.1)

      waits_ahead : (s ahead t : State) (time : ℕ) → IsAhead smalls hides s ahead → Goes smalls s (waits time) t → Follows smalls hides ahead (waits time) t
      waits_ahead s ahead t time is g = goes (record { term = t.term; coming = ahead.coming }) (passes_ahead s.coming is.0 g.0, refl) (stays, is.1 ∙ sym g.1)

      pub follows : (s ahead t : State) (v : Sight) → IsAhead smalls hides s ahead → Goes smalls s v t → Follows smalls hides ahead v t
      follows s ahead t (happens h) is g = happens_ahead s ahead t h is g
      follows s ahead t (waits time) is g = waits_ahead s ahead t time is g

-- no body of a program's definitions names a cell
pub are_free : (x : Context) (smalls : List SmallDefinition) → AreOf smalls x → AreFree smalls
are_free x smalls of = record { free = λ e d w n fixed is. go e d w n fixed is (slice_get x.definitions e) refl } where
  no_out : ℕ → Out
  no_out k = record { site = 0; args = []; rest = Never }

  go : (e : ℕ) (d : SmallDefinition) (w : Param) (n : ℕ) → IsFixed w → slice_get smalls e ≡ Some d → (o : Option Definition) → slice_get x.definitions e ≡ o → settle w n d.body ≡ d.body
  go e d w n fixed is None none =
      let wrong : true ≡ false = ap is_some (sym is) ∙ of.there e ∙ ap is_some none in
      cc wrong
  go e d w n fixed is (Some k) there =
      let known = of.seen e k there in
      let some : Some known.1 ≡ Some d = sym known.2 ∙ is in
      let one : known.1 ≡ d = cc some in
      let body : d.body ≡ seen no_out [] k.body = ap SmallDefinition.body (sym one) ∙ sym (known.4 no_out []) in
      ap (settle w n) body ∙ free w fixed n no_out k.body known.0 (of.closed e k there) ∙ sym body

pub ahead_follows : AheadFollows
ahead_follows x smalls hides s ahead t v of silent is g = follows smalls hides silent (are_free x smalls of) s ahead t v is g

pub ahead_ends : AheadEnds
ahead_ends smalls hides s ahead e is h = ends_ahead smalls hides s.coming e is.0 h

pub ahead_is_reached : AheadIsReached
ahead_is_reached smalls hides s ahead silent is =
    let w = way smalls hides silent s.coming is.0 in
    (w.sights, subst (λ (c : Coming). Path smalls s w.sights (record { term = ahead.term; coming = c })) (sym is.1) w.path, w.hidden)

-- an early step with a happening that is hidden is early
pub hidden_early : (smalls : List SmallDefinition) (hides : Happening → Bool) (c : Coming) (h : Happening) {n : ℕ} {f g : Small} → Early smalls (next_call c) (λ k. k ≡ h) n f g → IsHidden hides c h → Early smalls (next_call c) (IsHidden hides c) n f g
hidden_early smalls hides c h s hid = still_early smalls (next_call c) (next_call c) (λ k. k ≡ h) (IsHidden hides c) (λ m args e. refl) (λ k e. subst (IsHidden hides c) (sym e) hid) s

-- early steps one after another
pub leads_both : (smalls : List SmallDefinition) (hides : Happening → Bool) (c : Coming) {f g k : Small} → Leads smalls hides c f g → Leads smalls hides c g k → Leads smalls hides c f k
leads_both smalls hides c stays more = more
leads_both smalls hides c (early s rest) more = early s (leads_both smalls hides c rest more)

pub ahead_both : (smalls : List SmallDefinition) (hides : Happening → Bool) (s t u : State) → IsAhead smalls hides s t → IsAhead smalls hides t u → IsAhead smalls hides s u
ahead_both smalls hides s t u a b = (leads_both smalls hides s.coming a.0 (subst (λ (c : Coming). Leads smalls hides c t.term u.term) a.1 b.0), b.1 ∙ a.1)
